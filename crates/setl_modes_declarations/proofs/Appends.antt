-- Breaks behind breaks.
use Rattle.std.proofs.Common.{◌≡◌, ℕ, ◌+◌, ◌<◌, drop, length, get_or, Bool, true, false, cond, List, [], ◌∷◌, ◌++◌, fold, Option, refl, ap, sym, ◌∙◌}
use Rattle.std.proofs.lemmas.List.Sums.{fold-append}
use Rattle.setl_tree.specs.declared.mode.Attribute.{Attribute}
use Rattle.setl_tree.specs.declared.mode.Core.{Core, fold-roll-Core}
use Rattle.setl_tree.specs.declared.mode.Core.TheVariants as co
use Rattle.setl_tree.specs.declared.mode.Core.TheOpen.{Core-F}
use Rattle.setl_tree.specs.declared.mode.WrittenMode.{WrittenMode}
use Rattle.setl_tree.specs.declared.mode.ReprLine.{ReprLine}
use Rattle.setl_names.specs.declared.broken.Break.{Break}
use Rattle.setl_names.specs.Breaks.{earlier, tagged, break_at}
use Rattle.setl_names.specs.Names.{Name, has, with_names}
use Rattle.setl_names.specs.Variables.{var_names}
use Rattle.setl_modes_written.specs.Written.{Written, Simple, Element, Tuple, Set, Smap, Mmap, written, parts, core_step, mode_step}
use Rattle.setl_modes_written.specs.code.Tests.{core_written}
use Rattle.setl_modes_declarations.specs.Rules.{unknown_bases, line_parts, line_bases, rule_21}
use Rattle.setl_modes_declarations.proofs.Lines.{split}

tagged_append : (rule : ℕ) (xs ys : List ℕ) → tagged rule (xs ++ ys) ≡ tagged rule xs ++ tagged rule ys
tagged_append rule [] ys = refl
tagged_append rule (x ∷ xs) ys = ap (λ (bs : List Break). break_at x rule ∷ bs) (tagged_append rule xs ys)

-- the first break so far and of some lines, then of others
pub tagged_fold : (first : Option Break) (rule : ℕ) (xs ys : List ℕ) → fold earlier first (tagged rule (xs ++ ys)) ≡ fold earlier (fold earlier first (tagged rule xs)) (tagged rule ys)
tagged_fold first rule xs ys = ap (fold earlier first) (tagged_append rule xs ys) ∙ fold-append earlier first (tagged rule xs) (tagged rule ys)

unknown_append : (bases : List Name) (xs ys : List Written) → unknown_bases bases (xs ++ ys) ≡ unknown_bases bases xs ++ unknown_bases bases ys
unknown_append bases [] ys = refl
unknown_append bases (Simple a ∷ xs) ys = unknown_append bases xs ys
unknown_append bases (Element a line b ∷ xs) ys = by (has bases b) (unknown_append bases xs ys)
  where
    by : (t : Bool) → unknown_bases bases (xs ++ ys) ≡ unknown_bases bases xs ++ unknown_bases bases ys →
        cond t (unknown_bases bases (xs ++ ys)) (line ∷ unknown_bases bases (xs ++ ys)) ≡ cond t (unknown_bases bases xs) (line ∷ unknown_bases bases xs) ++ unknown_bases bases ys
    by true later = later
    by false later = ap (λ (ls : List ℕ). line ∷ ls) later
unknown_append bases (Tuple a m ∷ xs) ys = unknown_append bases xs ys
unknown_append bases (Set a m ∷ xs) ys = unknown_append bases xs ys
unknown_append bases (Smap a d r ∷ xs) ys = unknown_append bases xs ys
unknown_append bases (Mmap a d r ∷ xs) ys = unknown_append bases xs ys

-- the first break so far and of some modes, then of others
pub unknown_fold : (first : Option Break) (bases : List Name) (xs ys : List Written) →
    fold earlier first (tagged 21 (unknown_bases bases (xs ++ ys))) ≡ fold earlier (fold earlier first (tagged 21 (unknown_bases bases xs))) (tagged 21 (unknown_bases bases ys))
unknown_fold first bases xs ys = ap (λ (ls : List ℕ). fold earlier first (tagged 21 ls)) (unknown_append bases xs ys) ∙ tagged_fold first 21 (unknown_bases bases xs) (unknown_bases bases ys)

pub smap_written : (x : Core) (d r : WrittenMode) (a : Option Attribute) → x ≡ co.Smap d r → core_written x a ≡ Smap a (written d) (written r)
smap_written x d r a h =
    ap (λ (z : Core). core_written z a) h
    ∙ ap (λ (f : Option Attribute → Written). f a) (ap core_written (sym (co.rolls-Smap d r)) ∙ fold-roll-Core (Option Attribute → Written) Written core_step mode_step (Core-F.Smap d r))

pub mmap_written : (x : Core) (d r : WrittenMode) (a : Option Attribute) → x ≡ co.Mmap d r → core_written x a ≡ Mmap a (written d) (written r)
mmap_written x d r a h =
    ap (λ (z : Core). core_written z a) h
    ∙ ap (λ (f : Option Attribute → Written). f a) (ap core_written (sym (co.rolls-Mmap d r)) ∙ fold-roll-Core (Option Attribute → Written) Written core_step mode_step (Core-F.Mmap d r))

-- the first break so far and of a mode
abbrev with_unknown : Option Break → List Name → Written → Option Break
with_unknown first known m = fold earlier first (tagged 21 (unknown_bases known (parts m)))

two_unknown : (d r d1 r1 : WrittenMode) (first middle last : Option Break) (known : List Name) → d1 ≡ d → r1 ≡ r → middle ≡ with_unknown first known (written d1) → last ≡ with_unknown middle known (written r1) →
    last ≡ fold earlier first (tagged 21 (unknown_bases known (parts (written d) ++ parts (written r))))
two_unknown d r d1 r1 first middle last known ed er em el =
    el
    ∙ ap (λ (m : WrittenMode). with_unknown middle known (written m)) er
    ∙ ap (λ (f : Option Break). with_unknown f known (written r)) (em ∙ ap (λ (m : WrittenMode). with_unknown first known (written m)) ed)
    ∙ sym (unknown_fold first known (parts (written d)) (parts (written r)))

pub smap_unknown : (x : Core) (d r d1 r1 : WrittenMode) (a : Option Attribute) (first middle last : Option Break) (known : List Name) → x ≡ co.Smap d r → d1 ≡ d → r1 ≡ r → middle ≡ with_unknown first known (written d1) → last ≡ with_unknown middle known (written r1) →
    last ≡ with_unknown first known (core_written x a)
smap_unknown x d r d1 r1 a first middle last known h ed er em el =
    two_unknown d r d1 r1 first middle last known ed er em el ∙ sym (ap (with_unknown first known) (smap_written x d r a h))

pub mmap_unknown : (x : Core) (d r d1 r1 : WrittenMode) (a : Option Attribute) (first middle last : Option Break) (known : List Name) → x ≡ co.Mmap d r → d1 ≡ d → r1 ≡ r → middle ≡ with_unknown first known (written d1) → last ≡ with_unknown middle known (written r1) →
    last ≡ with_unknown first known (core_written x a)
mmap_unknown x d r d1 r1 a first middle last known h ed er em el =
    two_unknown d r d1 r1 first middle last known ed er em el ∙ sym (ap (with_unknown first known) (mmap_written x d r a h))

-- the first break so far and of the bases that one more line names
pub line_unknown : (lines : List ReprLine) (i : ℕ) (l : ReprLine) (first next whole : Option Break) (known more : List Name) → i < length lines → l ≡ get_or lines i l →
    fold earlier first (tagged 21 (rule_21 known (drop i lines))) ≡ whole → next ≡ fold earlier first (tagged 21 (unknown_bases known (line_parts l))) → more ≡ with_names known (var_names (line_bases l)) →
    fold earlier next (tagged 21 (rule_21 more (drop (i + 1) lines))) ≡ whole
line_unknown lines i l first next whole known more h is inv en em =
    let rest : List ReprLine = drop (i + 1) lines in
    let here : List ℕ = unknown_bases known (line_parts l) in
    let after : List Name = with_names known (var_names (line_bases l)) in
    ap (λ (f : Option Break). fold earlier f (tagged 21 (rule_21 more rest))) en
    ∙ ap (λ (k : List Name). fold earlier (fold earlier first (tagged 21 here)) (tagged 21 (rule_21 k rest))) em
    ∙ sym (tagged_fold first 21 here (rule_21 after rest))
    ∙ ap (λ (ls : List ReprLine). fold earlier first (tagged 21 (rule_21 known ls))) (sym (split lines i l h is))
    ∙ inv
