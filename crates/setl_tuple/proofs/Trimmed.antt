-- Lists of components that don't end in `om`.
use Rattle.std.specs.Prelude.{◌≡◌, ℕ, zero, suc, List, [], ◌∷◌, ◌++◌, Option, Some, None, replicate, refl}
use Rattle.std.proofs.Common.{ap, sym, ◌∙◌, subst}
use Rattle.std.proofs.lemmas.List.{append-nil}
use Rattle.setl_value.specs.Datum.{Datum, part_list-parts_of}
use Rattle.setl_value.specs.WellFormed.{EndsIn, IsTrimmed, IsTupleList, trim, trim_onto}
use Rattle.setl_value.specs.Copies.{copies}

-- a tuple's list
pub trimmed_tuple : (t : List (Option Datum)) → IsTupleList t → IsTrimmed t
trimmed_tuple t h = subst IsTrimmed (part_list-parts_of t) h.0.1

onto_more : (p q : Option Datum) (ps : List (Option Datum)) → trim_onto p (q ∷ ps) ≡ p ∷ q ∷ ps
onto_more None q ps = refl
onto_more (Some d) q ps = refl

ends_later : (p q : Option Datum) (ps : List (Option Datum)) → EndsIn p (q ∷ ps) → EndsIn q ps
ends_later None q ps h = h
ends_later (Some d) q ps h = h

ends_sooner : (p q : Option Datum) (ps : List (Option Datum)) → EndsIn q ps → EndsIn p (q ∷ ps)
ends_sooner None q ps h = h
ends_sooner (Some d) q ps h = h

trim-ends : (p : Option Datum) (ps : List (Option Datum)) → EndsIn p ps → trim (p ∷ ps) ≡ p ∷ ps
trim-ends None [] h = absurd h
trim-ends (Some d) [] h = refl
trim-ends p (q ∷ ps) h = ap (trim_onto p) (trim-ends q ps (ends_later p q ps h)) ∙ onto_more p q ps

-- there is nothing to drop
pub trim-trimmed : (t : List (Option Datum)) → IsTrimmed t → trim t ≡ t
trim-trimmed [] h = refl
trim-trimmed (p ∷ ps) h = trim-ends p ps h

ends-append : (p q : Option Datum) (xs ys : List (Option Datum)) → EndsIn q ys → EndsIn p (xs ++ q ∷ ys)
ends-append p q [] ys h = ends_sooner p q ys h
ends-append p q (x ∷ xs) ys h = ends_sooner p x (xs ++ q ∷ ys) (ends-append x q xs ys h)

pub trimmed-append : (xs ys : List (Option Datum)) → IsTrimmed xs → IsTrimmed ys → IsTrimmed (xs ++ ys)
trimmed-append xs [] h k = subst IsTrimmed (sym (append-nil xs)) h
trimmed-append [] (q ∷ ys) h k = k
trimmed-append (x ∷ xs) (q ∷ ys) h k = ends-append x q xs ys k

pub trimmed-copies : (n : ℕ) (t : List (Option Datum)) → IsTrimmed t → IsTrimmed (copies n t)
trimmed-copies zero t h = tt
trimmed-copies (suc n) t h = trimmed-append t (copies n t) h (trimmed-copies n t h)

pub trimmed-gap : (k : ℕ) (d : Datum) → IsTrimmed (replicate k None ++ Some d ∷ [])
trimmed-gap zero d = tt
trimmed-gap (suc k) d = ends-append None (Some d) (replicate k None) [] tt

-- `om` at the end is dropped
trim-om : (k : ℕ) → trim (replicate k None) ≡ []
trim-om zero = refl
trim-om (suc k) = ap (trim_onto None) (trim-om k)

pub trim-append_om : (ps : List (Option Datum)) (k : ℕ) → trim (ps ++ replicate k None) ≡ trim ps
trim-append_om [] k = trim-om k
trim-append_om (p ∷ ps) k = ap (trim_onto p) (trim-append_om ps k)
