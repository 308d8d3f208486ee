-- Laws of searches and counts; the recursion along links
pub mod CountLaws
pub mod AlongLaws
-- Happens-before; chains; the clock theorem; flat clocks; what is said of them all
pub mod OrderLaws
pub mod ChainLaws
pub mod SetLaws
pub mod CoverRows
pub mod RaisingLaws
pub mod ClockLaws
pub mod RowLaws
pub mod Theorems
-- The records: links and begins; the pass that fills the rows, with functions and with lists
pub mod ScheduleLaws
pub mod OwnRows
pub mod FlatLaws
pub mod WalkLaws
pub mod HintLaws
pub mod FillLaws
pub mod Examples
-- Traces: their links, ranks and order
pub mod Counted
pub mod EventRows
pub mod LinkRuleLaws
pub mod LinkedTrace
pub mod LinkedExamples
pub mod TraceOrder
pub mod TraceLaws
pub mod RecordOrder
pub mod RankLaws
pub mod TraceWalk
pub mod PassLaws
pub mod TableLaws
pub mod ComparedLaws
pub mod SpaceLaws
pub mod FillEnds
pub mod EntryLaws
pub mod LentLaws
pub mod PrepareLaws
-- By event number, of every accepted trace
pub mod FilledTrace
pub mod ByEvent
pub mod OwnPart
pub mod Variants
-- Rows from the table of bits
pub mod BeginLaws
pub mod TablePass
pub mod FromTableLaws
pub mod FillTable
