-- Laws of what is kept, and of commands and walks over it. Those of the memory are public.
pub mod LentLaws
mod LayLaws
mod ObeyLaws
mod WalkLaws
