use Rattle.std.proofs.Common.{◌≡◌, ◌≤◌, ◌-◌, ◌++◌, ℕ, List, length, drop}
use Rattle.setl_text.specs.Reading.{resume}
use Rattle.setl_text.specs.code.Scans.{token_of, opens, TokenFits, IsShallow}
use Rattle.setl_text.proofs.read.scan.Given as goal

abbrev pub invariant-bytes : goal.invariant-bytes
invariant-bytes l = record {
  inside : l.taken ≤ length l.bytes;
  token : TokenFits (token_of l.piece);
  shallow : IsShallow (opens l.opened.items);
  same : (more : List ℕ) → resume (l.bytes ++ more) (token_of l.fn.piece) (opens l.fn.opened.items) ≡ resume (drop l.taken l.bytes ++ more) (token_of l.piece) (opens l.opened.items);
}

abbrev pub decreases-bytes : goal.decreases-bytes
decreases-bytes l = length l.bytes - l.taken
