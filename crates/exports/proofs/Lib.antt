-- Laws of the C forms.
mod OutcomeLaws
mod FeedingLaws
mod NumberedLaws
mod WordLaws
mod LeftLaws
mod ReplayLaws
mod LentLaws
mod CallLaws
