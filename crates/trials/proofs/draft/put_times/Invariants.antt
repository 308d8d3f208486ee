use Rattle.std.specs.Prelude.{◌≡◌, ◌-◌, [], ◌∷◌}
use Rattle.records.specs.Encoding.{encode}
use Rattle.trials.specs.Draft.{put_in, after}
use Rattle.trials.proofs.draft.put_times.Given as goal

abbrev pub invariant-loop-k : goal.invariant-loop-k
invariant-loop-k l =
    let rec = encode (record { kind = l.kind; first = l.first; second = l.second } ∷ []) in
    (put_in (l.times - l.k) rec l.bytes l.next ≡ put_in l.times rec l.initial.bytes l.at) × (after (l.times - l.k) l.next ≡ after l.times l.at)
