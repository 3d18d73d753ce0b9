-- How the code of a construct is put together.
use Rattle.std.proofs.Common.{◌≡◌, ℕ, suc, ◌≤◌, List, [], ◌∷◌, ◌++◌, drop, length, length-append, append_assoc, refl, ap, sym, subst, ◌∙◌, arith}
use Rattle.std.proofs.Math.Seq.{set-append_seam}
use Rattle.std.proofs.lemmas.List.{append-nil, drop_all}
use Rattle.std.specs.Prelude.{slice_set}
use Rattle.setl_code.specs.Code.{Instr, Unless, Jump, Step}
use Rattle.setl_code.specs.Piece.{Piece, empty, step, jump_out, jump_on, join, ending_at, going_on_at, past, Labels, steps_of, Laid, ◌⨾◌, nothing, one, over, either, ending, going_on, leaving}
use Rattle.setl_code.specs.PieceLaws.{past_steps}
use Rattle.setl_gen_emitter.specs.declared.hole.Hole.{Hole}
use Rattle.setl_gen_emitter.specs.Emitted.{Emitted, here, exits_of, labels, after, with_step, filled, all_filled, with_exits, with_again}

-- ---- places

length_past : (pre : List Step) (l : Labels) (p : Piece) → length (pre ++ steps_of l p) ≡ past (length pre) p
length_past pre l p = omega (arith, length-append pre (steps_of l p), past_steps p l (length pre))

-- ---- what is held, piece by piece

abbrev pub made : Emitted → List Step → List Hole → Emitted
made s ss hs = record s { steps = ss; exits = hs }

made_same : (s : Emitted) (ss ts : List Step) (hs ks : List Hole) → ss ≡ ts → hs ≡ ks → made s ss hs ≡ made s ts ks
made_same s ss ts hs ks e f = ap (λ x. made s x hs) e ∙ ap (λ y. made s ts y) f

abbrev code_in : Emitted → Piece → List Step
code_in s p = steps_of (labels s.again) p

abbrev grown : Emitted → List Step → List Hole → ℕ → Piece → Emitted
grown s ss hs n p = made s (ss ++ code_in s p) (hs ++ exits_of n p)

-- code behind steps whose number is known
grow : (s t : Emitted) (ss : List Step) (hs : List Hole) (n : ℕ) (a : Laid) → t ≡ made s ss hs → length ss ≡ n → after a t ≡ grown s ss hs n (a n)
unfolding after
grow s t ss hs n a e f = ap (after a) e ∙ ap (λ m. grown s ss hs m (a m)) f

pub here_after : (a : Laid) (s : Emitted) → here (after a s) ≡ past (here s) (a (here s))
unfolding after
here_after a s = length_past s.steps (labels s.again) (a (here s))

pub after_then : (a b : Laid) (s : Emitted) → after b (after a s) ≡ after (a ⨾ b) s
unfolding after
after_then a b s =
    let n = here s in
    let p = a n in
    let q = b (past n p) in
    grow s (after a s) (s.steps ++ code_in s p) (s.exits ++ exits_of n p) (past n p) b refl (here_after a s)
    ∙ made_same s ((s.steps ++ code_in s p) ++ code_in s q) (s.steps ++ (code_in s p ++ code_in s q))
    ((s.exits ++ exits_of n p) ++ exits_of (past n p) q) (s.exits ++ (exits_of n p ++ exits_of (past n p) q))
    (append_assoc s.steps (code_in s p) (code_in s q)) (append_assoc s.exits (exits_of n p) (exits_of (past n p) q))

pub after_nothing : (s : Emitted) → after nothing s ≡ s
unfolding after
after_nothing s = made_same s (s.steps ++ []) s.steps (s.exits ++ []) s.exits (append-nil s.steps) (append-nil s.exits)

pub then_made : (a b : Laid) (s t u : Emitted) → t ≡ after a s → u ≡ after b t → u ≡ after (a ⨾ b) s
then_made a b s t u e f = f ∙ ap (after b) e ∙ after_then a b s

pub then_two : (a b c : Laid) (s t u v : Emitted) → t ≡ after a s → u ≡ after b t → v ≡ after c u → v ≡ after (a ⨾ b ⨾ c) s
then_two a b c s t u v e f g = then_made a (b ⨾ c) s t v e (then_made b c t u v f g)

-- ---- targets filled in

seam_at : (xs : List Step) (y z : Step) (ys : List Step) (n : ℕ) → length xs ≡ n → slice_set (xs ++ y ∷ ys) n z ≡ xs ++ z ∷ ys
seam_at xs y z ys n e = subst (λ m. slice_set (xs ++ y ∷ ys) m z ≡ xs ++ z ∷ ys) e (set-append_seam xs y ys z)

over_here : (line : ℕ) (i : ℕ → Instr) (a : Laid) (s s0 t u : Emitted) → s0 ≡ after (one line (i 0)) s → t ≡ after a s0 → u ≡ with_step (here s) line (i (here t)) t → u ≡ after (over line i a) s
unfolding after
over_here line i a s s0 t u e0 e1 e2 =
    let n = here s in
    let p = a (suc n) in
    let P = code_in s p in
    let hp = exits_of (suc n) p in
    let z : Step = (line, i 0) in
    let y : Step = (line, i (past (suc n) p)) in
    let l0 : length (s.steps ++ z ∷ []) ≡ suc n = omega (arith, length-append s.steps (z ∷ [])) in
    let x1 : t ≡ made s (s.steps ++ z ∷ P) (s.exits ++ hp) =
    e1 ∙ grow s s0 (s.steps ++ z ∷ []) (s.exits ++ []) (suc n) a e0 l0
    ∙ made_same s ((s.steps ++ z ∷ []) ++ P) (s.steps ++ z ∷ P) ((s.exits ++ []) ++ hp) (s.exits ++ hp) (append_assoc s.steps (z ∷ []) P) (ap (λ h. h ++ hp) (append-nil s.exits)) in
    let l1 : length (s.steps ++ z ∷ P) ≡ past (suc n) p = omega (arith, length-append s.steps (z ∷ P), past_steps p (labels s.again) (suc n)) in
    let h1 : here t ≡ past (suc n) p = ap here x1 ∙ l1 in
    e2 ∙ ap (λ m. with_step n line (i m) t) h1 ∙ ap (with_step n line (i (past (suc n) p))) x1
    ∙ ap (λ r. made s r (s.exits ++ hp)) (seam_at s.steps z y P n refl)

pub over_made : (line : ℕ) (i : ℕ → Instr) (a : Laid) (at end : ℕ) (s s0 t u : Emitted) → at ≡ here s → s0 ≡ after (one line (i 0)) s → t ≡ after a s0 → end ≡ here t → u ≡ with_step at line (i end) t → u ≡ after (over line i a) s
over_made line i a at end s s0 t u p e0 e1 q e2 =
    over_here line i a s s0 t u e0 e1 (e2 ∙ ap (λ m. with_step m line (i end) t) p ∙ ap (λ m. with_step (here s) line (i m) t) q)

either_here : (line : ℕ) (a b : Laid) (s s0 t1 t2 t3 t4 u : Emitted) → s0 ≡ after (one line (Unless 0)) s → t1 ≡ after a s0 → t2 ≡ after (one line (Jump 0)) t1 → t3 ≡ with_step (here s) line (Unless (here t2)) t2 → t4 ≡ after b t3 → u ≡ with_step (here t1) line (Jump (here t4)) t4 → u ≡ after (either line a b) s
unfolding after
either_here line a b s s0 t1 t2 t3 t4 u e0 e1 e2 e3 e4 e5 =
    let n = here s in
    let S = s.steps in
    let H = s.exits in
    let p = a (suc n) in
    let P = code_in s p in
    let hp = exits_of (suc n) p in
    let k = past (suc n) p in
    let q = b (suc k) in
    let Q = code_in s q in
    let hq = exits_of (suc k) q in
    let z : Step = (line, Unless 0) in
    let y : Step = (line, Unless (suc k)) in
    let w : Step = (line, Jump 0) in
    let j : Step = (line, Jump (past (suc k) q)) in
    let l = labels s.again in
    let l0 : length (S ++ z ∷ []) ≡ suc n = omega (arith, length-append S (z ∷ [])) in
    let x1 : t1 ≡ made s (S ++ z ∷ P) (H ++ hp) =
    e1 ∙ grow s s0 (S ++ z ∷ []) (H ++ []) (suc n) a e0 l0
    ∙ made_same s ((S ++ z ∷ []) ++ P) (S ++ z ∷ P) ((H ++ []) ++ hp) (H ++ hp) (append_assoc S (z ∷ []) P) (ap (λ h. h ++ hp) (append-nil H)) in
    let l1 : length (S ++ z ∷ P) ≡ k = omega (arith, length-append S (z ∷ P), past_steps p l (suc n)) in
    let h1 : here t1 ≡ k = ap here x1 ∙ l1 in
    let x2 : t2 ≡ made s (S ++ z ∷ (P ++ w ∷ [])) (H ++ hp) =
    e2 ∙ ap (after (one line (Jump 0))) x1
    ∙ made_same s ((S ++ z ∷ P) ++ w ∷ []) (S ++ z ∷ (P ++ w ∷ [])) ((H ++ hp) ++ []) (H ++ hp) (append_assoc S (z ∷ P) (w ∷ [])) (append-nil (H ++ hp)) in
    let l2 : length (S ++ z ∷ (P ++ w ∷ [])) ≡ suc k = omega (arith, length-append S (z ∷ (P ++ w ∷ [])), length-append P (w ∷ []), past_steps p l (suc n)) in
    let h2 : here t2 ≡ suc k = ap here x2 ∙ l2 in
    let x3 : t3 ≡ made s (S ++ y ∷ (P ++ w ∷ [])) (H ++ hp) =
    e3 ∙ ap (λ m. with_step n line (Unless m) t2) h2 ∙ ap (with_step n line (Unless (suc k))) x2
    ∙ ap (λ r. made s r (H ++ hp)) (seam_at S z y (P ++ w ∷ []) n refl) in
    let l3 : length (S ++ y ∷ (P ++ w ∷ [])) ≡ suc k = omega (arith, length-append S (y ∷ (P ++ w ∷ [])), length-append P (w ∷ []), past_steps p l (suc n)) in
    let x4 : t4 ≡ made s ((S ++ y ∷ P) ++ w ∷ Q) (H ++ (hp ++ hq)) =
    e4 ∙ grow s t3 (S ++ y ∷ (P ++ w ∷ [])) (H ++ hp) (suc k) b x3 l3
    ∙ made_same s ((S ++ y ∷ (P ++ w ∷ [])) ++ Q) ((S ++ y ∷ P) ++ w ∷ Q) ((H ++ hp) ++ hq) (H ++ (hp ++ hq))
    (append_assoc S (y ∷ (P ++ w ∷ [])) Q ∙ ap (λ r. S ++ y ∷ r) (append_assoc P (w ∷ []) Q) ∙ sym (append_assoc S (y ∷ P) (w ∷ Q))) (append_assoc H hp hq) in
    let l4 : length ((S ++ y ∷ P) ++ w ∷ Q) ≡ past (suc k) q = omega (arith, length-append (S ++ y ∷ P) (w ∷ Q), length-append S (y ∷ P), past_steps p l (suc n), past_steps q l (suc k)) in
    let h4 : here t4 ≡ past (suc k) q = ap here x4 ∙ l4 in
    let ly : length (S ++ y ∷ P) ≡ k = omega (arith, length-append S (y ∷ P), past_steps p l (suc n)) in
    e5 ∙ ap (λ m. with_step m line (Jump (here t4)) t4) h1 ∙ ap (λ m. with_step k line (Jump m) t4) h4 ∙ ap (with_step k line (Jump (past (suc k) q))) x4
    ∙ ap (λ r. made s r (H ++ (hp ++ hq))) (seam_at (S ++ y ∷ P) w j Q k ly ∙ append_assoc S (y ∷ P) (j ∷ Q))

pub either_made : (line : ℕ) (a b : Laid) (at over there end : ℕ) (s s0 t1 t2 t3 t4 u : Emitted) → at ≡ here s → s0 ≡ after (one line (Unless 0)) s → t1 ≡ after a s0 → over ≡ here t1 → t2 ≡ after (one line (Jump 0)) t1 → there ≡ here t2 → t3 ≡ with_step at line (Unless there) t2 → t4 ≡ after b t3 → end ≡ here t4 → u ≡ with_step over line (Jump end) t4 → u ≡ after (either line a b) s
either_made line a b at over there end s s0 t1 t2 t3 t4 u p e0 e1 o e2 r e3 e4 q e5 =
    either_here line a b s s0 t1 t2 t3 t4 u e0 e1 e2
    (e3 ∙ ap (λ m. with_step m line (Unless there) t2) p ∙ ap (λ m. with_step (here s) line (Unless m) t2) r) e4
    (e5 ∙ ap (λ m. with_step m line (Jump end) t4) o ∙ ap (λ m. with_step (here t1) line (Jump m) t4) q)

-- the same where the jump over the second is told behind it
pub either_closed : (line : ℕ) (a b : Laid) (at : ℕ) (s s1 t u : Emitted) → s1 ≡ after (over line Unless (a ⨾ one line (Jump 0))) s → suc at ≡ here s1 → t ≡ after b s1 → u ≡ with_step at line (Jump (here t)) t → u ≡ after (either line a b) s
unfolding after
either_closed line a b at s s1 t u e1 p0 e2 e3 =
    let n = here s in
    let S = s.steps in
    let H = s.exits in
    let p = a (suc n) in
    let P = code_in s p in
    let hp = exits_of (suc n) p in
    let k = past (suc n) p in
    let q = b (suc k) in
    let Q = code_in s q in
    let hq = exits_of (suc k) q in
    let y : Step = (line, Unless (suc k)) in
    let w : Step = (line, Jump 0) in
    let j : Step = (line, Jump (past (suc k) q)) in
    let l = labels s.again in
    let x1 : s1 ≡ made s (S ++ y ∷ (P ++ w ∷ [])) (H ++ hp) = e1 ∙ ap (λ g. made s (S ++ y ∷ (P ++ w ∷ [])) (H ++ g)) (append-nil hp) in
    let l1 : length (S ++ y ∷ (P ++ w ∷ [])) ≡ suc k = omega (arith, length-append S (y ∷ (P ++ w ∷ [])), length-append P (w ∷ []), past_steps p l (suc n)) in
    let h1 : here s1 ≡ suc k = ap here x1 ∙ l1 in
    let m : at ≡ k = omega (arith, p0, h1) in
    let x2 : t ≡ made s ((S ++ y ∷ P) ++ w ∷ Q) (H ++ (hp ++ hq)) =
    e2 ∙ grow s s1 (S ++ y ∷ (P ++ w ∷ [])) (H ++ hp) (suc k) b x1 l1
    ∙ made_same s ((S ++ y ∷ (P ++ w ∷ [])) ++ Q) ((S ++ y ∷ P) ++ w ∷ Q) ((H ++ hp) ++ hq) (H ++ (hp ++ hq))
    (append_assoc S (y ∷ (P ++ w ∷ [])) Q ∙ ap (λ r. S ++ y ∷ r) (append_assoc P (w ∷ []) Q) ∙ sym (append_assoc S (y ∷ P) (w ∷ Q))) (append_assoc H hp hq) in
    let l2 : length ((S ++ y ∷ P) ++ w ∷ Q) ≡ past (suc k) q = omega (arith, length-append (S ++ y ∷ P) (w ∷ Q), length-append S (y ∷ P), past_steps p l (suc n), past_steps q l (suc k)) in
    let h2 : here t ≡ past (suc k) q = ap here x2 ∙ l2 in
    let ly : length (S ++ y ∷ P) ≡ k = omega (arith, length-append S (y ∷ P), past_steps p l (suc n)) in
    e3 ∙ ap (λ g. with_step g line (Jump (here t)) t) m ∙ ap (λ g. with_step k line (Jump g) t) h2 ∙ ap (with_step k line (Jump (past (suc k) q))) x2
    ∙ ap (λ r. made s r (H ++ (hp ++ hq))) (seam_at (S ++ y ∷ P) w j Q k ly ∙ append_assoc S (y ∷ P) (j ∷ Q))

-- ---- loops

pub filled_append : (to : ℕ) (hs ks : List Hole) (ss : List Step) → filled to (hs ++ ks) ss ≡ filled to hs (filled to ks ss)
filled_append to [] ks ss = refl
filled_append to (h ∷ hs) ks ss = ap (λ r. slice_set r h.place (h.line, Jump to)) (filled_append to hs ks ss)

-- the last jump is filled in
pub last_filled : (to : ℕ) (hs ks : List Hole) (h : Hole) (s t : Emitted) → hs ≡ ks ++ h ∷ [] → t ≡ with_step h.place h.line (Jump to) s → all_filled to ks t ≡ all_filled to hs s
last_filled to hs ks h s t e f =
    ap (all_filled to ks) f ∙ ap (λ r. made s r s.exits) (sym (filled_append to ks (h ∷ []) s.steps)) ∙ ap (λ r. all_filled to r s) (sym e)

-- the jumps out of a piece, filled in, give the piece with this label
fills : (to : ℕ) (l : Labels) (pre : List Step) (p : Piece) (post : List Step) → filled to (exits_of (length pre) p) (pre ++ (steps_of l p ++ post)) ≡ pre ++ (steps_of (record l { exit = to }) p ++ post)
fills to l pre empty post = refl
fills to l pre (step line i) post = refl
fills to l pre (jump_out line) post = set-append_seam pre (line, Jump l.exit) post (line, Jump to)
fills to l pre (jump_on line) post = refl
fills to l pre (join p q) post =
    let n = length pre in
    let m : Labels = record l { exit = to } in
    let A = steps_of l p in
    let B = steps_of l q in
    let C = steps_of m p in
    let D = steps_of m q in
    let hp = exits_of n p in
    let hq = exits_of (past n p) q in
    filled_append to hp hq (pre ++ ((A ++ B) ++ post))
    ∙ ap (λ r. filled to hp (filled to hq r)) (ap (λ r. pre ++ r) (append_assoc A B post) ∙ sym (append_assoc pre A (B ++ post)))
    ∙ ap (λ k. filled to hp (filled to (exits_of k q) ((pre ++ A) ++ (B ++ post)))) (sym (length_past pre l p))
    ∙ ap (filled to hp) (fills to l (pre ++ A) q post ∙ append_assoc pre A (D ++ post))
    ∙ fills to l pre p (D ++ post)
    ∙ ap (λ r. pre ++ r) (sym (append_assoc C D post))
fills to l pre (ending_at k p) post = refl
fills to l pre (going_on_at k p) post = fills to (record l { again = k }) pre p post

leaving_here : (a b : Laid) (s s1 s2 s3 s4 u : Emitted) → s1 ≡ with_exits [] s → s2 ≡ after a s1 → s3 ≡ with_exits s.exits s2 → s4 ≡ after b s3 → u ≡ all_filled (here s4) s2.exits s4 → u ≡ after (leaving a b) s
unfolding after
leaving_here a b s s1 s2 s3 s4 u e1 e2 e3 e4 e5 =
    let n = here s in
    let S = s.steps in
    let H = s.exits in
    let l = labels s.again in
    let p = a n in
    let P = code_in s p in
    let hp = exits_of n p in
    let k = past n p in
    let q = b k in
    let Q = code_in s q in
    let hq = exits_of k q in
    let e = past k q in
    let L : Labels = record { exit = e; again = s.again } in
    let x2 : s2 ≡ made s (S ++ P) hp = e2 ∙ grow s s1 S [] n a e1 refl in
    let x3 : s3 ≡ made s (S ++ P) H = e3 ∙ ap (with_exits H) x2 in
    let x4 : s4 ≡ made s (S ++ (P ++ Q)) (H ++ hq) = e4 ∙ grow s s3 (S ++ P) H k b x3 (length_past S l p) ∙ ap (λ g. made s g (H ++ hq)) (append_assoc S P Q) in
    let l4 : length (S ++ (P ++ Q)) ≡ e = omega (arith, length-append S (P ++ Q), length-append P Q, past_steps p l n, past_steps q l k) in
    let h4 : here s4 ≡ e = ap here x4 ∙ l4 in
    e5 ∙ ap (λ g. all_filled g s2.exits s4) h4
    ∙ ap (λ (t : Emitted). all_filled e t.exits s4) x2 ∙ ap (all_filled e hp) x4
    ∙ ap (λ g. made s g (H ++ hq)) (fills e l S p Q)

-- code left at its end or behind the code that follows
pub leaving_made : (a b : Laid) (outer inner : List Hole) (end : ℕ) (s s1 s2 s3 s4 u : Emitted) → outer ≡ s.exits → s1 ≡ with_exits [] s → s2 ≡ after a s1 → inner ≡ s2.exits → s3 ≡ with_exits outer s2 → s4 ≡ after b s3 → end ≡ here s4 → u ≡ all_filled end inner s4 → u ≡ after (leaving a b) s
leaving_made a b outer inner end s s1 s2 s3 s4 u o e1 e2 i e3 e4 q e5 =
    leaving_here a b s s1 s2 s3 s4 u e1 e2 (e3 ∙ ap (λ h. with_exits h s2) o) e4
    (e5 ∙ ap (λ m. all_filled m inner s4) q ∙ ap (λ h. all_filled (here s4) h s4) i)

ending_is : (a : Laid) (s : Emitted) → after (leaving a nothing) s ≡ after (ending a) s
unfolding after
ending_is a s =
    let n = here s in
    let p = a n in
    let C = steps_of (record { exit = past n p; again = s.again }) p in
    ap (λ g. made s (s.steps ++ g) (s.exits ++ [])) (append-nil C)

-- code left at its end
pub ending_made : (a : Laid) (outer inner : List Hole) (end : ℕ) (s s1 s2 s3 u : Emitted) → outer ≡ s.exits → s1 ≡ with_exits [] s → s2 ≡ after a s1 → inner ≡ s2.exits → s3 ≡ with_exits outer s2 → end ≡ here s3 → u ≡ all_filled end inner s3 → u ≡ after (ending a) s
ending_made a outer inner end s s1 s2 s3 u o e1 e2 i e3 q e4 =
    leaving_made a nothing outer inner end s s1 s2 s3 s3 u o e1 e2 i e3 (sym (after_nothing s3)) q e4 ∙ ending_is a s

going_on_is : (w : ℕ) (a : Laid) (s : Emitted) → with_again s.again (after a (with_again w s)) ≡ after (going_on w a) s
unfolding after
going_on_is w a s = refl

-- code of a loop that goes on at a place
pub going_made : (w g : ℕ) (a : Laid) (s s1 s2 u : Emitted) → g ≡ s.again → s1 ≡ with_again w s → s2 ≡ after a s1 → u ≡ with_again g s2 → u ≡ after (going_on w a) s
going_made w g a s s1 s2 u o e1 e2 e3 =
    e3 ∙ ap (λ m. with_again m s2) o ∙ ap (with_again s.again) (e2 ∙ ap (after a) e1) ∙ going_on_is w a s

-- ---- code of lists

-- with nothing behind it
pub last : (a : Laid) (s : Emitted) → after (a ⨾ nothing) s ≡ after a s
last a s = sym (after_then a nothing s) ∙ after_nothing (after a s)

-- behind the last item
pub done_made : {X : Type 0} (f : List X → Laid) (xs : List X) (i : ℕ) (s z : Emitted) → length xs ≤ i → after (f []) s ≡ s → after (f (drop i xs)) s ≡ z → s ≡ z
done_made f xs i s z h e g = sym e ∙ ap (λ r. after (f r) s) (sym (drop_all i xs h)) ∙ g
