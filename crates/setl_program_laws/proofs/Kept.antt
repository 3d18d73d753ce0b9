-- What stands in the statements of a program that breaks no rule.
use Rattle.std.proofs.Common.{◌≡◌, ℕ, Bool, true, false, not, cond, List, [], ◌∷◌, ◌++◌, length, nat_eq, Option, Some, None, refl, true≢false}
use Rattle.std.proofs.Math.Dec.{eqb-suc-zero, eqb-zero-suc, eqb-suc-suc}
use Rattle.std.specs.List.{list_any}
use Rattle.setl_tree.specs.declared.tree.Param.{Param}
use Rattle.setl_tree.specs.declared.tree.Passing.{Passing}
use Rattle.setl_tree.specs.declared.tree.Passing.TheVariants as pa
use Rattle.setl_tree.specs.declared.tree.Proc.{Proc}
use Rattle.setl_names.specs.declared.occurrence.Argument.{Argument}
use Rattle.setl_names.specs.declared.occurrence.Argument.TheVariants as arg
use Rattle.setl_names.specs.declared.occurrence.What.{What}
use Rattle.setl_names.specs.declared.occurrence.What.TheVariants as what
use Rattle.setl_names.specs.declared.occurrence.Occurrence.{Occurrence}
use Rattle.setl_names.specs.Breaks.{broken, occurrence_breaks, all_occurrence_breaks}
use Rattle.setl_names.specs.Procedures.{params_of}
use Rattle.setl_names.specs.Rules.{is_stored, is_no_variable, stored, has_other_count, stores_no_variable, rule_9, rule_10, rule_11, rule_12, rule_13, rule_14}

-- an argument for a `wr` or `rw` parameter is a name
abbrev pub ArgumentFits : Passing → Argument → Type 0
ArgumentFits pa.Rd x = Unit {0}
ArgumentFits pa.Wr arg.Other = ⊥
ArgumentFits pa.Wr (arg.Name x own inside) = Unit {0}
ArgumentFits pa.Rw arg.Other = ⊥
ArgumentFits pa.Rw (arg.Name x own inside) = Unit {0}

abbrev pub ArgumentsFit : List Param → List Argument → Type 0
ArgumentsFit [] [] = Unit {0}
ArgumentsFit (p ∷ ps) (x ∷ xs) = ArgumentFits p.passing x × ArgumentsFit ps xs
ArgumentsFit ps xs = ⊥

abbrev pub CallFits : Option (List Param) → List Argument → Type 0
CallFits None xs = Unit {0}
CallFits (Some ps) xs = ArgumentsFit ps xs

abbrev pub KeptWhat : List Proc → What → Type 0
KeptWhat procs (what.Applied f own xs) = CallFits (params_of procs f) xs
KeptWhat procs (what.Quit in_loop) = in_loop ≡ true
KeptWhat procs (what.Return in_procedure) = in_procedure ≡ true
KeptWhat procs _ = Unit {0}

abbrev pub AllKept : List Proc → List Occurrence → Type 0
AllKept procs [] = Unit {0}
AllKept procs (u ∷ us) = KeptWhat procs u.what × AllKept procs us

pub record Kept (procs : List Proc) (us : List Occurrence) : Type 0 where
  pub all : AllKept procs us

-- ---- one behind the other

all_first : (procs : List Proc) (us vs : List Occurrence) → AllKept procs (us ++ vs) → AllKept procs us
all_first procs [] vs h = tt
all_first procs (u ∷ us) vs h = (h.0, all_first procs us vs h.1)

all_second : (procs : List Proc) (us vs : List Occurrence) → AllKept procs (us ++ vs) → AllKept procs vs
all_second procs [] vs h = h
all_second procs (u ∷ us) vs h = all_second procs us vs h.1

module _ {procs : List Proc} where
  pub first : (us vs : List Occurrence) → Kept procs (us ++ vs) → Kept procs us
  first us vs h = record { all = all_first procs us vs h.all }

  pub second : (us vs : List Occurrence) → Kept procs (us ++ vs) → Kept procs vs
  second us vs h = record { all = all_second procs us vs h.all }

-- ---- no breaks

pub no_first : {A : Type 0} (xs ys : List A) → xs ++ ys ≡ [] → xs ≡ []
no_first [] ys h = refl
no_first (x ∷ xs) ys h = cc

pub no_second : {A : Type 0} (xs ys : List A) → xs ++ ys ≡ [] → ys ≡ []
no_second [] ys h = h
no_second (x ∷ xs) ys h = cc

not_broken : (line rule : ℕ) (b : Bool) → broken line rule b ≡ [] → b ≡ false
not_broken line rule true h = cc
not_broken line rule false h = refl

arguments_fit : (ps : List Param) (xs : List Argument) → not (nat_eq (length xs) (length ps)) ≡ false → list_any is_no_variable (stored ps xs) ≡ false → ArgumentsFit ps xs
arguments_fit [] [] n h = tt
arguments_fit [] (x ∷ xs) n h = absurd (true≢false (rw (eqb-suc-zero (length xs)) at n))
arguments_fit (p ∷ ps) [] n h = absurd (true≢false (rw (eqb-zero-suc (length ps)) at n))
arguments_fit (p ∷ ps) (x ∷ xs) n h = by p.passing x h (arguments_fit ps xs (rw (eqb-suc-suc (length xs) (length ps)) at n))
  where
    by : (w : Passing) (y : Argument) → list_any is_no_variable (cond (is_stored w) (y ∷ stored ps xs) (stored ps xs)) ≡ false → (list_any is_no_variable (stored ps xs) ≡ false → ArgumentsFit ps xs) → ArgumentFits w y × ArgumentsFit ps xs
    by pa.Rd y g later = (tt, later g)
    by pa.Wr arg.Other g later = cc
    by pa.Wr (arg.Name z true inside) g later = cc
    by pa.Wr (arg.Name z false inside) g later = (tt, later g)
    by pa.Rw arg.Other g later = cc
    by pa.Rw (arg.Name z true inside) g later = cc
    by pa.Rw (arg.Name z false inside) g later = (tt, later g)

call_fits : (o : Option (List Param)) (xs : List Argument) → has_other_count o xs ≡ false → stores_no_variable o xs ≡ false → CallFits o xs
call_fits None xs n h = tt
call_fits (Some ps) xs n h = arguments_fit ps xs n h

is_true : (b : Bool) → not b ≡ false → b ≡ true
is_true true h = refl
is_true false h = cc

by_rules : (procs : List Proc) (w : What) → rule_10 procs w ≡ false → rule_11 procs w ≡ false → rule_13 procs w ≡ false → rule_14 procs w ≡ false → KeptWhat procs w
by_rules procs (what.Applied f own xs) a b c d = call_fits (params_of procs f) xs a b
by_rules procs (what.Quit in_loop) a b c d = is_true in_loop c
by_rules procs (what.Return in_procedure) a b c d = is_true in_procedure d
by_rules procs _ a b c d = tt

what_kept : (procs : List Proc) (line : ℕ) (w : What) → occurrence_breaks procs (record { line = line; what = w }) ≡ [] → KeptWhat procs w
what_kept procs line w h =
    let after_9 = no_second (broken line 9 (rule_9 procs w)) _ h in
    let after_10 = no_second (broken line 10 (rule_10 procs w)) _ after_9 in
    let after_12 = no_second (broken line 12 (rule_12 procs w)) _ (no_second (broken line 11 (rule_11 procs w)) _ after_10) in
    let after_13 = no_second (broken line 13 (rule_13 procs w)) _ after_12 in
    by_rules procs w
    (not_broken line 10 (rule_10 procs w) (no_first (broken line 10 (rule_10 procs w)) _ after_9))
    (not_broken line 11 (rule_11 procs w) (no_first (broken line 11 (rule_11 procs w)) _ after_10))
    (not_broken line 13 (rule_13 procs w) (no_first (broken line 13 (rule_13 procs w)) _ after_12))
    (not_broken line 14 (rule_14 procs w) (no_first (broken line 14 (rule_14 procs w)) _ after_13))

all_kept : (procs : List Proc) (us : List Occurrence) → all_occurrence_breaks procs us ≡ [] → AllKept procs us
all_kept procs [] h = tt
all_kept procs (u ∷ us) h = (what_kept procs u.line u.what (no_first (occurrence_breaks procs u) (all_occurrence_breaks procs us) h), all_kept procs us (no_second (occurrence_breaks procs u) (all_occurrence_breaks procs us) h))

pub kept : (procs : List Proc) (us : List Occurrence) → all_occurrence_breaks procs us ≡ [] → Kept procs us
kept procs us h = record { all = all_kept procs us h }
