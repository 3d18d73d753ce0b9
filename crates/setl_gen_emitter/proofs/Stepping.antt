-- What a step does to what is held.
use Rattle.std.proofs.Common.{◌≡◌, ℕ, List, [], ◌∷◌, ◌++◌, map, refl, ap, sym, ◌∙◌}
use Rattle.std.proofs.lemmas.List.{append-nil, map-append, map-set}
use Rattle.std.specs.Prelude.{slice_set}
use Rattle.setl_code.specs.declared.code.Step as rust
use Rattle.setl_code.specs.Code.{Instr, Jump, Step}
use Rattle.setl_code.specs.Piece.{one, jumps_out, jumps_on}
use Rattle.setl_code.specs.Plain.{Variables, plain_step}
use Rattle.setl_gen_emitter.specs.declared.hole.Hole.{Hole}
use Rattle.setl_gen_emitter.specs.Emitted.{Emitted, here, hole, after, with_step}
use Rattle.setl_gen_emitter.specs.EmittedLaws.{made}

-- one more step
pub one_made : (s : Emitted) (line : ℕ) (i : Instr) (ss : List Step) → ss ≡ s.steps ++ (line, i) ∷ [] → made s ss s.exits ≡ after (one line i) s
unfolding after
one_made s line i ss e = ap (λ r. made s r s.exits) e ∙ ap (made s (s.steps ++ (line, i) ∷ [])) (sym (append-nil s.exits))

pub steps_more : (vs : Variables) (ss ts : List rust.Step) (x : rust.Step) → ts ≡ ss ++ x ∷ [] → map (plain_step vs) ts ≡ map (plain_step vs) ss ++ plain_step vs x ∷ []
steps_more vs ss ts x e = ap (map (plain_step vs)) e ∙ map-append (plain_step vs) ss (x ∷ [])

pub jump_made : (s t : Emitted) (line : ℕ) (hs : List Hole) → t ≡ after (one line (Jump 0)) s → hs ≡ t.exits ++ hole (here s) line ∷ [] → made t t.steps hs ≡ after (jumps_out line) s
unfolding after
jump_made s t line hs e f = ap (made t t.steps) f ∙ ap (λ (u : Emitted). made u u.steps (u.exits ++ hole (here s) line ∷ [])) e ∙ ap (λ r. made s (s.steps ++ (line, Jump 0) ∷ []) (r ++ hole (here s) line ∷ [])) (append-nil s.exits)

pub on_made : (s : Emitted) (line : ℕ) → after (one line (Jump s.again)) s ≡ after (jumps_on line) s
unfolding after
on_made s line = refl

-- another step in the place of one
pub steps_with : (vs : Variables) (ss ts : List rust.Step) (at : ℕ) (x : rust.Step) → ts ≡ slice_set ss at x → map (plain_step vs) ts ≡ slice_set (map (plain_step vs) ss) at (plain_step vs x)
steps_with vs ss ts at x e = ap (map (plain_step vs)) e ∙ map-set (plain_step vs) ss at x

pub step_put : (s : Emitted) (at line : ℕ) (i : Instr) (ss : List Step) → ss ≡ slice_set s.steps at (line, i) → made s ss s.exits ≡ with_step at line i s
step_put s at line i ss e = ap (λ r. made s r s.exits) e
