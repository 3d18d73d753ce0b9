-- The breaks of calls.
use Rattle.std.proofs.Common.{◌≡◌, ◌<◌, ◌≤◌, ℕ, Bool, true, false, cond, List, [], ◌∷◌, ◌++◌, ◌+◌, ◌||◌, length, drop, get_or, Option, Some, None, refl, ap, sym, ◌∙◌, append_assoc, add-one, drop-cons}
use Rattle.std.proofs.lemmas.List.{append-nil, drop_all}
use Rattle.std.specs.List.{list_any}
use Rattle.setl_tree.specs.declared.tree.Param.{Param}
use Rattle.setl_tree.specs.declared.tree.Proc.{Proc}
use Rattle.setl_names.specs.declared.occurrence.Argument.{Argument}
use Rattle.setl_names.specs.declared.occurrence.Argument.TheVariants as arg
use Rattle.setl_names.specs.declared.occurrence.What.TheVariants as what
use Rattle.setl_names.specs.declared.rules.Stores.{Stores}
use Rattle.setl_names.specs.Breaks.{broken, occurrence_breaks}
use Rattle.setl_names.specs.Names.{Name}
use Rattle.setl_names.specs.Procedures.{params_of}
use Rattle.setl_names.specs.Rules.{is_stored, stored, is_no_variable, is_bound_around, argument_names, is_empty, has_other_count, stores_no_variable, is_empty_selection, stores_bound_around, stores_twice}
use Rattle.setl_names.specs.code.Stores.{with_store, with_argument, stores_from, applied_by, applied_breaks}

by_params : (line : ℕ) (o : Option (List Param)) (xs : List Argument) →
    broken line 10 (has_other_count o xs) ++ (broken line 11 (stores_no_variable o xs) ++ (broken line 12 (is_empty_selection o xs)
    ++ (broken line 16 (stores_bound_around o xs) ++ broken line 18 (stores_twice o xs)))) ≡ applied_by line o xs
by_params line None xs = append-nil (broken line 12 (is_empty xs))
by_params line (Some ps) xs = refl

-- the breaks of a name before a list in round brackets
pub applied_as : (procs : List Proc) (line : ℕ) (f : Name) (own : Bool) (xs : List Argument) →
    occurrence_breaks procs (record { line = line; what = what.Applied f own xs }) ≡ applied_breaks procs line f xs
applied_as procs line f own xs = by_params line (params_of procs f) xs

-- ---- arguments for `wr` and `rw` parameters

or_assoc : (a b c : Bool) → (a || b) || c ≡ a || (b || c)
or_assoc true b c = refl
or_assoc false b c = refl

or_true : (a : Bool) → a || true ≡ true
or_true true = refl
or_true false = refl

pub one_more_store : (s : Stores) (x : Argument) (xs : List Argument) → stores_from (with_store s x) xs ≡ stores_from s (x ∷ xs)
one_more_store s arg.Other xs = ap (λ b. record { no_variable = b; bound_around = s.bound_around || list_any is_bound_around xs; names = s.names ++ argument_names xs }) (sym (or_true s.no_variable))
one_more_store s (arg.Name x own inside) xs =
    rw (or_assoc s.no_variable own (list_any is_no_variable xs), or_assoc s.bound_around inside (list_any is_bound_around xs), append_assoc s.names (x ∷ []) (argument_names xs)) refl

stored_none : (ps : List Param) → stored ps [] ≡ []
stored_none [] = refl
stored_none (p ∷ ps) = refl

-- the arguments from one place on
pub stored_here : (ps : List Param) (xs : List Argument) (i : ℕ) (p : Param) (x : Argument) → i < length ps → i < length xs → p ≡ get_or ps i p → x ≡ get_or xs i x →
    stored (drop i ps) (drop i xs) ≡ cond (is_stored p.passing) (x ∷ stored (drop (i + 1) ps) (drop (i + 1) xs)) (stored (drop (i + 1) ps) (drop (i + 1) xs))
stored_here ps xs i p x hp hx ep ex = rw (add-one, drop-cons ps i p hp, drop-cons xs i x hx, ← ep, ← ex) refl

pub stored_past : (ps : List Param) (xs : List Argument) (i : ℕ) → length xs ≤ i → stored ps (drop i xs) ≡ []
stored_past ps xs i h = rw (drop_all i xs h) (stored_none ps)

or_false : (a : Bool) → a || false ≡ a
or_false true = refl
or_false false = refl

stores_nothing : (s : Stores) → stores_from s [] ≡ s
stores_nothing s = rw (or_false s.no_variable, or_false s.bound_around, append-nil s.names) refl

pub stores_end : (ps : List Param) (xs : List Argument) (i : ℕ) (s whole : Stores) → length xs ≤ i → stores_from s (stored (drop i ps) (drop i xs)) ≡ whole → s ≡ whole
stores_end ps xs i s whole h inv = sym (stores_nothing s) ∙ (rw (stored_past (drop i ps) xs i h) at inv)

step_by : (b : Bool) (s : Stores) (x : Argument) (xs : List Argument) → stores_from (cond b (with_store s x) s) xs ≡ stores_from s (cond b (x ∷ xs) xs)
step_by true s x xs = one_more_store s x xs
step_by false s x xs = refl

pub stores_step : (ps : List Param) (xs : List Argument) (i : ℕ) (p : Param) (x : Argument) (s new whole : Stores) → i < length ps → i < length xs → p ≡ get_or ps i p → x ≡ get_or xs i x →
    new ≡ with_argument s p x → stores_from s (stored (drop i ps) (drop i xs)) ≡ whole → stores_from new (stored (drop (i + 1) ps) (drop (i + 1) xs)) ≡ whole
stores_step ps xs i p x s new whole hp hx ep ex en inv =
    ap (λ (z : Stores). stores_from z (stored (drop (i + 1) ps) (drop (i + 1) xs))) en
    ∙ step_by (is_stored p.passing) s x (stored (drop (i + 1) ps) (drop (i + 1) xs))
    ∙ ap (stores_from s) (sym (stored_here ps xs i p x hp hx ep ex))
    ∙ inv
