-- Laws of names moved together.
mod GatherLaws
mod StartLaws
mod MoveLaws
pub mod ResultLaws
