-- Roots found and points united: laws, and the turns of `find`.
pub mod FindLaws
pub mod UniteLaws
pub mod RoomLaws
pub mod Determined
pub mod Refuted
