-- What one byte of the input does, in its four cases. Assumes nothing.
use mathlib.Core.Path.{◌≡◌, ◌∙◌}
use mathlib.Core.Bool.{true, false}
use Prim.Native.Nat.{ℕ, ◌≤◌, ◌<◌}
use borrow.Author.Tests.{lt-ltb, le-ltb, eq-eqb, ne_eqb}
use Rattle.text.specs.Bytes.{line_feed}
use Rattle.quoted.specs.Start.{with_byte, next_line, fault_ended, line_ended, heeded}
use Rattle.quoted.specs.declared.Start.{Start}

pub step-ended : (fault : ℕ) (s : Start) (b : ℕ) → s.ended ≡ true → heeded fault s b ≡ s
unfolding heeded
step-ended fault s b e = rw e

step-feed : (fault : ℕ) (s : Start) (b : ℕ) → s.ended ≡ false → b ≡ line_feed → heeded fault s b ≡ line_ended fault s
unfolding heeded
step-feed fault s b e f = rw (e, eq-eqb b line_feed f)

-- a line feed, where the line is not the one at fault, and where it is
pub step-next : (fault : ℕ) (s : Start) (b : ℕ) → s.ended ≡ false → b ≡ line_feed → s.line < fault → heeded fault s b ≡ next_line s
unfolding line_ended
step-next fault s b e f h = step-feed fault s b e f ∙ rw (lt-ltb s.line fault h)

pub step-fault : (fault : ℕ) (s : Start) (b : ℕ) → s.ended ≡ false → b ≡ line_feed → fault ≤ s.line → heeded fault s b ≡ fault_ended s
unfolding line_ended
step-fault fault s b e f h = step-feed fault s b e f ∙ rw (le-ltb s.line fault h)

-- any other byte
pub step-byte : (fault : ℕ) (s : Start) (b : ℕ) → s.ended ≡ false → (b ≡ line_feed → ⊥) → heeded fault s b ≡ with_byte s b
unfolding heeded
step-byte fault s b e f = rw (e, ne_eqb b line_feed f)
