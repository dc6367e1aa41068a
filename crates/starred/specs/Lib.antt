-- The desk's table: what a case is and when it holds, and the cases.
pub mod Cases
pub mod Table
