-- What a span of the line stands for, passed on from command_tokens: a command's meaning is stated with it.
unfoldable pub use Rattle.command_tokens.specs.Spans.{raw_bytes, span_bytes}
pub use Rattle.command_tokens.specs.Spans.{Lies}
