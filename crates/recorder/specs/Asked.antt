-- What the rules ask of the records before. Assumes nothing.
use Rattle.std.specs.Prelude.{ℕ, ◌≡◌, Bool, List}
use Rattle.records.specs.declared.Record.{Record}
use Rattle.records.specs.Records.{begun, ended}
use Rattle.trace.specs.declared.rule.History.{History}
use Rattle.trace.specs.Rule.{judge}

-- with these facts the rules judge record r as they do with all that the records before it, the latest first, say
abbrev pub Suffices : List Record → Record → History → Type 0
Suffices before r h = (s e : ℕ) (behind : Bool)
    → judge s e r h.first_begun h.second_begun h.second_ended behind ≡ judge s e r (begun r.first before) (begun r.second before) (ended r.second before) behind
