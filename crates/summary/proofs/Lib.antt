-- Laws of the summary.
pub mod CountLaws
pub mod AgreeLaws
pub mod GrownLaws
