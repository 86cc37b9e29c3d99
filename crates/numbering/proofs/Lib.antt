-- Steps on lent cells, the turns of an exchange and of numbering on plain values, what numbering tells its callers, and that
-- the public contracts fix their outcome.
pub mod StepLaws
pub mod TradeTurn
pub mod NumberTurn
pub mod Numbers
pub mod Determined
