-- Tests, and what is chosen by them: the laws of `spec`.
pub use Rattle.spec.proofs.Choice.{left, right, both, asked, other, fails, cases, either, IfSome, in_range}
