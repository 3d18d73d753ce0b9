-- What the rules say of names outside statements, and that no first break is no break.
use Rattle.std.proofs.Common.{◌≡◌, ℕ, Bool, true, false, true≢false, List, [], ◌∷◌, ◌++◌, ◌||◌, map, fold, Some, None, refl, sym, ap, ◌∙◌, bytes_eq, if◌then◌else◌}
use Rattle.std.specs.Cmp.Lexicographic.{bytes_decides}
use Rattle.setl_tree.specs.declared.tree.Declared.{Declared}
use Rattle.setl_tree.specs.declared.tree.Param.{Param}
use Rattle.setl_tree.specs.declared.tree.Proc.{Proc}
use Rattle.setl_names.specs.declared.broken.Break.{Break}
use Rattle.setl_names.specs.declared.head.Entry.{Entry}
use Rattle.setl_names.specs.Names.{Name as Word, has, with_name, with_names, in_order}
use Rattle.setl_names.specs.Heads.{lines_again, param_entry, declared_entry, rule_5, rule_6, rule_7, rule_8}
use Rattle.setl_names.specs.Breaks.{tagged, var_breaks, list_breaks, precedes, earlier, first_break}
use Rattle.setl_names.specs.Variables.{var_names}
use Rattle.setl_program.specs.Program.{Parameter}
use Rattle.setl_program.specs.Placed.{NamesDiffer}
use Rattle.setl_program.specs.ProgramOf.{parameter_of}
use Rattle.setl_program_laws.proofs.Kept.{no_first}

-- ---- names among names

or_assoc : (a b c : Bool) → (a || b) || c ≡ a || (b || c)
or_assoc true b c = refl
or_assoc false b c = refl

has_append : (xs ys : List Word) (x : Word) → has (xs ++ ys) x ≡ has xs x || has ys x
has_append [] ys x = refl
has_append (z ∷ xs) ys x = ap (λ b. bytes_eq x z || b) (has_append xs ys x) ∙ sym (or_assoc (bytes_eq x z) (has xs x) (has ys x))

widened : (a b d : Bool) → a || d ≡ true → a || (b || d) ≡ true
widened true b d h = refl
widened false true d h = refl
widened false false d h = h

regrouped : (a b d : Bool) → (a || (b || false)) || d ≡ true → a || (b || d) ≡ true
regrouped true b d h = refl
regrouped false true d h = refl
regrouped false false d h = h

has_with_names : (xs ys : List Word) (x : Word) → has (with_names xs ys) x ≡ true → has xs x || has ys x ≡ true
has_with_names xs [] x h = rw h refl
has_with_names xs (y ∷ ys) x h = by (has xs y) (has_with_names (with_name xs y) ys x h)
  where
    by : (b : Bool) → has (if b then xs else xs ++ y ∷ []) x || has ys x ≡ true → has xs x || (bytes_eq x y || has ys x) ≡ true
    by true g = widened (has xs x) (bytes_eq x y) (has ys x) g
    by false g = regrouped (has xs x) (bytes_eq x y) (has ys x) (ap (λ b. b || has ys x) (sym (has_append xs (y ∷ []) x)) ∙ g)

pub has_in_order : (xs : List Word) (x : Word) → has (in_order xs) x ≡ true → has xs x ≡ true
has_in_order xs x h = has_with_names [] xs x h

-- ---- names that differ

abbrev entry_names : List Entry → List Word
entry_names es = map (λ e. e.name) es

-- none of the entries has one of these names
abbrev Fresh : List Word → List Entry → Type 0
Fresh seen [] = Unit {0}
Fresh seen (e ∷ es) = (has seen e.name ≡ false) × Fresh seen es

left_false : (a b : Bool) → a || b ≡ false → a ≡ false
left_false true b h = h
left_false false b h = refl

right_false : (a b : Bool) → a || b ≡ false → b ≡ false
right_false true b h = cc
right_false false b h = h

other_way : (x y : Word) → bytes_eq x y ≡ false → bytes_eq y x ≡ false
other_way x y h = by (bytes_eq y x) refl
  where
    by : (b : Bool) → bytes_eq y x ≡ b → b ≡ false
    by true e = absurd (true≢false (sym ((bytes_decides x y).1 (sym ((bytes_decides y x).0 e))) ∙ h))
    by false e = refl

both_false : (a b : Bool) → a ≡ false → b ≡ false → a || b ≡ false
both_false a b g h = rw (g, h) refl

fresh_less : (seen : List Word) (x : Word) (es : List Entry) → Fresh (seen ++ x ∷ []) es → Fresh seen es × (has (entry_names es) x ≡ false)
fresh_less seen x [] h = (tt, refl)
fresh_less seen x (e ∷ es) h =
    let later = fresh_less seen x es h.1 in
    let here : has seen e.name || (bytes_eq e.name x || false) ≡ false = sym (has_append seen (x ∷ []) e.name) ∙ h.0 in
    let other = other_way e.name x (left_false (bytes_eq e.name x) false (right_false (has seen e.name) (bytes_eq e.name x || false) here)) in
    ((left_false (has seen e.name) (bytes_eq e.name x || false) here, later.0), both_false (bytes_eq x e.name) (has (entry_names es) x) other later.1)

fresh : (seen : List Word) (es : List Entry) → lines_again seen es ≡ [] → Fresh seen es × NamesDiffer (entry_names es)
fresh seen [] h = (tt, tt)
fresh seen (e ∷ es) h = by (has seen e.name) refl h (fresh (seen ++ e.name ∷ []) es)
  where
    by : (b : Bool) → has seen e.name ≡ b → (if b then e.line ∷ lines_again (if b then seen else seen ++ e.name ∷ []) es else lines_again (if b then seen else seen ++ e.name ∷ []) es) ≡ [] →
        (lines_again (seen ++ e.name ∷ []) es ≡ [] → Fresh (seen ++ e.name ∷ []) es × NamesDiffer (entry_names es)) → Fresh seen (e ∷ es) × NamesDiffer (entry_names (e ∷ es))
    by true is g later = let no : true ≡ false = cc in absurd (true≢false no)
    by false is g later =
        let all = later g in
        let less = fresh_less seen e.name es all.0 in
        ((is, less.0), (less.1, all.1))

untagged : (rule : ℕ) (lines : List ℕ) → tagged rule lines ≡ [] → lines ≡ []
untagged rule [] h = refl
untagged rule (line ∷ lines) h = cc

same_params : (xs : List Param) → entry_names (map param_entry xs) ≡ map (λ (q : Parameter). q.name) (map parameter_of xs)
same_params [] = refl
same_params (x ∷ xs) = ap (λ (names : List Word). x.name ∷ names) (same_params xs)

same_vars : (ds : List Declared) → entry_names (map declared_entry ds) ≡ var_names ds
same_vars [] = refl
same_vars (d ∷ ds) = ap (λ (names : List Word). d.name ∷ names) (same_vars ds)

-- the parameters of a procedure differ
pub params_differ : (procs : List Proc) (xs : List Param) → list_breaks procs xs ≡ [] → NamesDiffer (map (λ (q : Parameter). q.name) (map parameter_of xs))
params_differ procs xs h = rw (← same_params xs) (fresh [] (map param_entry xs) (untagged 7 (rule_7 xs) (no_first (tagged 7 (rule_7 xs)) (tagged 8 (rule_8 procs xs)) h))).1

-- so do the names in `var`
pub vars_differ : (procs : List Proc) (ds : List Declared) → var_breaks procs ds ≡ [] → NamesDiffer (var_names ds)
vars_differ procs ds h = rw (← same_vars ds) (fresh [] (map declared_entry ds) (untagged 5 (rule_5 ds) (no_first (tagged 5 (rule_5 ds)) (tagged 6 (rule_6 procs ds)) h))).1

-- ---- no first break

some_first : (bs : List Break) (a : Break) → fold earlier (Some a) bs ≡ None → ⊥
some_first [] a h = let no : true ≡ false = cc in true≢false no
some_first (b ∷ bs) a h = by (precedes b a) h (some_first bs b) (some_first bs a)
  where
    by : (x : Bool) → fold earlier (if x then Some b else Some a) bs ≡ None → (fold earlier (Some b) bs ≡ None → ⊥) → (fold earlier (Some a) bs ≡ None → ⊥) → ⊥
    by true g one other = one g
    by false g one other = other g

pub no_breaks : (bs : List Break) → first_break bs ≡ None → bs ≡ []
no_breaks [] h = refl
no_breaks (b ∷ bs) h = absurd (some_first bs b h)
