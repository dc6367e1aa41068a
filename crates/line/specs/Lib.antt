-- The page of meanings: what a card, a side, a price and a flow are.
pub mod Card
pub mod Flow
