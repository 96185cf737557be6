-- Canonical patterns, few and in a buffer, passed on from command_patterns.
pub use Rattle.command_patterns.proofs.Packed.{packed_short, packed_few}
pub use Rattle.command_patterns.proofs.FewLaws.{listing_few, subscriptions_few}
