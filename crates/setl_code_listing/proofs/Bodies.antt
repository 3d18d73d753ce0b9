-- The text of procedures, one by one.
use Rattle.std.proofs.Common.{◌≡◌, ◌∙◌, ℕ, zero, suc, List, [], ◌∷◌, ◌++◌, drop, slice_get, Some, sym, ap, append_assoc, codes}
use Rattle.setl_model_runs.specs.Variable.{Variable}
use Rattle.setl_code.specs.declared.code.Body.{Body}
use Rattle.setl_code.specs.Code as plain
use Rattle.setl_code.specs.Listing.{body_text, procedures_text}
use Rattle.setl_code.specs.Plain.{plain_bodies, plain_body}
use Rattle.setl_code_listing.proofs.Variables.{body_same}

drop_next : {A : Type 0} (xs : List A) (n : ℕ) (x : A) → slice_get xs n ≡ Some x → drop n xs ≡ x ∷ drop (suc n) xs
drop_next [] n x h = absurd (cc)
drop_next (y ∷ xs) zero x h = let same : y ≡ x = cc in ap (λ z. z ∷ xs) same
drop_next (y ∷ xs) (suc n) x h = drop_next xs n x h

module _ (all : List plain.Body) (vars : List Variable) (bodies : List Body) where
  -- the text of the procedures from this number on
  abbrev pub from_number : ℕ → List ℕ
  from_number n = procedures_text all (plain_bodies vars n (drop n bodies))

  pub procedures_next : (n next : ℕ) (b : Body) (line new whole : List ℕ) → next ≡ suc n → slice_get bodies n ≡ Some b → line ++ from_number n ≡ whole → new ≡ line ++ body_text all (codes "proc " ++ b.name ++ 58 ∷ []) (plain_body vars 0 b) → new ++ from_number next ≡ whole
  procedures_next n next b line new whole e at before more =
      let head : List ℕ = codes "proc " ++ b.name ++ 58 ∷ [] in
      let rest = from_number (suc n) in
      let same : body_text all head (plain_body vars 0 b) ++ rest ≡ from_number n = ap (λ t. t ++ rest) (sym (body_same all vars n b head)) ∙ ap (λ bs. procedures_text all (plain_bodies vars n bs)) (sym (drop_next bodies n b at)) in
      ap (λ m. new ++ from_number m) e ∙ ap (λ t. t ++ rest) more ∙ append_assoc line (body_text all head (plain_body vars 0 b)) rest ∙ ap (λ t. line ++ t) same ∙ before
