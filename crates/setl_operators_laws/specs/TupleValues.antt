-- Tuples whose components are values or `om`, and that don't end in `om`.
use Rattle.std.specs.Prelude.{ℕ, zero, suc, ◌≤◌, List, [], ◌∷◌, ◌++◌, Option, Some, None, map}
use Rattle.std.specs.List.{AllByRecursion}
use Rattle.std.proofs.Common.{sym, subst, arith}
use Rattle.std.proofs.lemmas.List.{append-nil}
use Rattle.setl_value.specs.Copies.{copies}
use Rattle.setl_value.specs.Datum.{Datum, tuple, Parts, no_part, om_then, part_then, parts_depth, parts_of, part_list, part_list-parts_of, tuple_of}
use Rattle.setl_value.specs.WellFormed.{EndsIn, IsTrimmed, PartsAreWellFormed, IsValue, trim, trim_onto}
use Rattle.setl_operators_laws.specs.ValueLaws.{IsValueOrOm}
use Rattle.setl_operators_laws.specs.SetValues.{Stands}

-- a component
abbrev pub PartStands : ℕ → Option Datum → Type 0
PartStands k None = Unit {0}
PartStands k (Some d) = Stands k d

pub parts_in : (k : ℕ) (ps : Parts) → PartsAreWellFormed ps → parts_depth ps ≤ k → AllByRecursion (PartStands k) (part_list ps)
parts_in k no_part w h = tt
parts_in k (om_then ps) w h = (tt, parts_in k ps w h)
parts_in k (part_then d ps) w h = ((w.0, omega (arith, h)), parts_in k ps w.1 (omega (arith, h)))

-- the components of a value
pub components : (ps : Parts) → IsValue (tuple ps) → AllByRecursion (PartStands 499) (part_list ps)
components ps h = parts_in 499 ps h.0.0 (omega (arith, h.1))

pub trimmed_components : (ps : Parts) → IsValue (tuple ps) → IsTrimmed (part_list ps)
trimmed_components ps h = h.0.1

formed : (k : ℕ) (ps : List (Option Datum)) → AllByRecursion (PartStands k) ps → PartsAreWellFormed (parts_of ps) × (parts_depth (parts_of ps) ≤ k)
formed k [] a = (tt, omega arith)
formed k (None ∷ ps) a = formed k ps a.1
formed k (Some d ∷ ps) a = let r = formed k ps a.1 in ((a.0.0, r.0), omega (arith, a.0.1, r.1))

-- the tuple of them
pub tuple_stands : (k : ℕ) (ps : List (Option Datum)) → AllByRecursion (PartStands k) ps → IsTrimmed ps → Stands (suc k) (tuple_of ps)
tuple_stands k ps a t = let f = formed k ps a in ((f.0, subst IsTrimmed (sym (part_list-parts_of ps)) t), omega (arith, f.1))

pub tuple_is_value : (ps : List (Option Datum)) → AllByRecursion (PartStands 499) ps → IsTrimmed ps → IsValue (tuple_of ps)
tuple_is_value ps a t = let s = tuple_stands 499 ps a t in (s.0, omega (arith, s.1))

pub part_higher : (p : Option Datum) → PartStands 499 p → PartStands 500 p
part_higher None h = tt
part_higher (Some d) h = (h.0, omega (arith, h.1))

pub part_is_value : (p : Option Datum) → PartStands 499 p → IsValueOrOm p
part_is_value None h = tt
part_is_value (Some d) h = (h.0, omega (arith, h.1))

-- ---- no `om` at the end

ends_sooner : (p q : Option Datum) (ps : List (Option Datum)) → EndsIn q ps → EndsIn p (q ∷ ps)
ends_sooner None q ps h = h
ends_sooner (Some d) q ps h = h

ends_append : (p q : Option Datum) (xs ys : List (Option Datum)) → EndsIn q ys → EndsIn p (xs ++ q ∷ ys)
ends_append p q [] ys h = ends_sooner p q ys h
ends_append p q (x ∷ xs) ys h = ends_sooner p x (xs ++ q ∷ ys) (ends_append x q xs ys h)

pub trimmed_append : (xs ys : List (Option Datum)) → IsTrimmed xs → IsTrimmed ys → IsTrimmed (xs ++ ys)
trimmed_append xs [] h k = subst IsTrimmed (sym (append-nil xs)) h
trimmed_append [] (q ∷ ys) h k = k
trimmed_append (x ∷ xs) (q ∷ ys) h k = ends_append x q xs ys k

pub trimmed_copies : (n : ℕ) (t : List (Option Datum)) → IsTrimmed t → IsTrimmed (copies n t)
trimmed_copies zero t h = tt
trimmed_copies (suc n) t h = trimmed_append t (copies n t) h (trimmed_copies n t h)

onto_trimmed : (p : Option Datum) (ps : List (Option Datum)) → IsTrimmed ps → IsTrimmed (trim_onto p ps)
onto_trimmed None [] s = tt
onto_trimmed None (q ∷ ps) s = s
onto_trimmed (Some d) [] s = tt
onto_trimmed (Some d) (q ∷ ps) s = s

pub trim_is_trimmed : (ps : List (Option Datum)) → IsTrimmed (trim ps)
trim_is_trimmed [] = tt
trim_is_trimmed (p ∷ ps) = onto_trimmed p (trim ps) (trim_is_trimmed ps)

all_onto : (P : Option Datum → Type 0) (p : Option Datum) (ps : List (Option Datum)) → P p → AllByRecursion P ps → AllByRecursion P (trim_onto p ps)
all_onto P None [] h a = tt
all_onto P None (q ∷ ps) h a = (h, a)
all_onto P (Some d) ps h a = (h, a)

pub all_trim : (P : Option Datum → Type 0) (ps : List (Option Datum)) → AllByRecursion P ps → AllByRecursion P (trim ps)
all_trim P [] a = tt
all_trim P (p ∷ ps) a = all_onto P p (trim ps) a.0 (all_trim P ps a.1)

pub trimmed_some : (ds : List Datum) → IsTrimmed (map Some ds)
trimmed_some [] = tt
trimmed_some (d ∷ []) = tt
trimmed_some (d ∷ e ∷ ds) = trimmed_some (e ∷ ds)
