-- The laws of the flow, a file a subject.
pub mod Pins
pub mod Sets
pub mod BoardLaws
pub mod Numbers
pub mod SpreadLaws
pub mod VisitLaws
pub mod SearchLaws
pub mod CardLaws
pub mod TableLaws
pub mod TreeLaws
pub mod PushLaws
pub mod RaiseLaws
pub mod WholeLaws
pub mod Raised
