-- Laws of the LIST and LSUB answers, from what stands alone to what rests on it.
mod Sets
mod Prefixes
mod Listed
mod AtRow
mod Levels
mod Marking
mod Deciding
mod Showing
mod RowTexts
mod Putting
mod Replies
