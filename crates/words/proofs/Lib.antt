-- Laws about `specs/`, and the turns of loops on plain values.
pub mod LengthTurn
pub mod PushLaws
pub mod ReduceTurn
