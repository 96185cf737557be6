-- Laws of the program: the calls of the system, bytes that are fed turn by turn, parts that are answered in turn, and what a read and a
-- whole input come to.
pub mod CallLaws
pub mod TurnLaws
pub mod PartLaws
pub mod ServeLaws
