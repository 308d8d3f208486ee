-- Marks, with functions and with lists; the pass that finds the chains; how the question ends, and what it says over clocks that filling left
pub mod MarkLaws
pub mod MarkListLaws
pub mod Examples
pub mod HoldLaws
pub mod MemberLaws
pub mod TableChainLaws
pub mod AskLaws
pub mod OrderTheorem
