use Rattle.std.proofs.Common.{◌≡◌, ◌<◌, ℕ, slice_index}
use Rattle.fk_talk.proofs.password.differences.Given as goal

-- no bit differs in the bytes so far just where those are the same
abbrev pub invariant-bytes : goal.invariant-bytes
invariant-bytes l = record {
  alike : l.differs ≡ 0 → (k : ℕ) → k < l.at → slice_index l.one k ≡ slice_index l.other k;
  same : l.one ≡ l.other → l.differs ≡ 0;
}
