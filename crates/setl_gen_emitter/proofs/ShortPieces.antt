-- A member that is kept or dropped, and a loop that is left.
use Rattle.std.proofs.Common.{◌≡◌, ℕ, zero, suc, refl}
use Rattle.setl_code.specs.Code.{Unless, Jump, DropTop, AddBelow, LeaveAll}
use Rattle.setl_code.specs.Piece.{◌⨾◌, one, jumps_out, over}
use Rattle.setl_code.specs.Generated.{keep_or_drop, quit}
use Rattle.setl_gen_emitter.specs.Emitted.{Emitted, here, after, with_step}
use Rattle.setl_gen_emitter.specs.EmittedLaws.{then_made, then_two, over_made}

pub keep_made : (line a at end : ℕ) (s s1 s2 s3 s4 s5 u : Emitted) → at ≡ here s → s1 ≡ after (one line (Unless 0)) s → s2 ≡ after (one line (AddBelow 1)) s1 → s3 ≡ after (one line (Jump a)) s2 → end ≡ here s3 → s4 ≡ with_step at line (Unless end) s3 → s5 ≡ after (one line DropTop) s4 → u ≡ after (one line (Jump a)) s5 → u ≡ after (keep_or_drop line a) s
keep_made line a at end s s1 s2 s3 s4 s5 u p e1 e2 e3 q e4 e5 e6 =
    then_two (over line Unless (one line (AddBelow 1) ⨾ one line (Jump a))) (one line DropTop) (one line (Jump a)) s s4 s5 u
    (over_made line Unless (one line (AddBelow 1) ⨾ one line (Jump a)) at end s s1 s3 s4 p e1 (then_made (one line (AddBelow 1)) (one line (Jump a)) s1 s2 s3 e2 e3) q e4) e5 e6

pub quit_some : (line leaves : ℕ) (s t u : Emitted) → (leaves ≡ 0 → ⊥) → t ≡ after (one line (LeaveAll leaves)) s → u ≡ after (jumps_out line) t → u ≡ after (quit line leaves) s
quit_some line zero s t u h e f = absurd (h refl)
quit_some line (suc k) s t u h e f = then_made (one line (LeaveAll (suc k))) (jumps_out line) s t u e f
