-- The components of a tuple.
use Rattle.std.proofs.Common.{◌≡◌, ◌∙◌, ℕ, zero, suc, ◌-◌, ◌<◌, ◌≤◌, List, [], ◌∷◌, drop, Option, None, Some, refl, sym, ap, arith}
use Rattle.std.specs.Prelude.{slice_get}
use Rattle.setl_value.specs.Datum.{Datum, tuple_of, part_list-parts_of}
use Rattle.setl_code.specs.Code.{PartsOf}
use Rattle.setl_code.specs.CodeCore.{Operand, Result}
use Rattle.setl_code.specs.Machine.{next, first_parts, take_apart}
use Rattle.setl_store.specs.Standing.{Standing, over, at_place, top_of}
use Rattle.setl_machine_control.specs.Control.{in_world}
use Rattle.setl_machine_control.specs.Working.{Works}
use Rattle.setl_machine.specs.Working.{component_of}
use Rattle.setl_machine_control.specs.declared.end.End.TheVariants.{Paused}
use Rattle.setl_machine_control.specs.Laws.{top_taken}
use Rattle.setl_machine.proofs.Working.{goes}

pub component_there : (ps : List (Option Datum)) (at : ℕ) (p : Option Datum) → slice_get ps at ≡ Some p → p ≡ component_of ps at
component_there [] zero p h = absurd (cc)
component_there [] (suc at) p h = absurd (cc)
component_there (q ∷ ps) zero p h = cc
component_there (q ∷ ps) (suc at) p h = component_there ps at p h

pub component_behind : (ps : List (Option Datum)) (at : ℕ) → slice_get ps at ≡ None → None ≡ component_of ps at
component_behind [] at h = refl
component_behind (q ∷ ps) zero h = absurd (cc)
component_behind (q ∷ ps) (suc at) h = component_behind ps at h

-- one more of them
first_more : (n at : ℕ) (ps : List (Option Datum)) (xs : List Operand) → first_parts (suc n) (drop at ps) xs ≡ Result (component_of ps at) ∷ first_parts n (drop (suc at) ps) xs
first_more n zero [] xs = refl
first_more n (suc at) [] xs = refl
first_more n zero (p ∷ ps) xs = refl
first_more n (suc at) (p ∷ ps) xs = first_more n at ps xs

one_pushed : (count at : ℕ) (ps : List (Option Datum)) (xs : List Operand) (v : Option Datum) → 0 < at → at ≤ count → v ≡ component_of ps (at - 1) → Result v ∷ first_parts (count - at) (drop at ps) xs ≡ first_parts (count - (at - 1)) (drop (at - 1) ps) xs
one_pushed count at ps xs v some most e =
    let j = at - 1 in
    let same : suc j ≡ at = omega arith in
    let more : suc (count - at) ≡ count - j = omega arith in
    ap (λ u. Result u ∷ first_parts (count - at) (drop at ps) xs) e
    ∙ ap (λ n. Result (component_of ps j) ∷ first_parts (count - at) (drop n ps) xs) (sym same)
    ∙ sym (first_more (count - at) j ps xs)
    ∙ ap (λ n. first_parts n (drop j ps) xs) more

pub pushed_one : (old mid new : Standing) (count at : ℕ) (ps : List (Option Datum)) (v : Option Datum) → 0 < at → at ≤ count → mid ≡ record old { core = over (first_parts (count - at) (drop at ps) old.core.now.operands) old.core } → v ≡ component_of ps (at - 1) → new ≡ record mid { core = over (Result v ∷ mid.core.now.operands) mid.core } → new ≡ record old { core = over (first_parts (count - (at - 1)) (drop (at - 1) ps) old.core.now.operands) old.core }
pushed_one old mid new count at ps v some most m e n =
    n
    ∙ ap (λ (s : Standing). record s { core = over (Result v ∷ s.core.now.operands) s.core }) m
    ∙ ap (λ xs. record old { core = over xs old.core }) (one_pushed count at ps old.core.now.operands v some most e)

-- a tuple is taken apart
pub apart_goes : (old pop mid new : Standing) (line count : ℕ) (ps : List (Option Datum)) → top_of old.core.now.operands ≡ Some (Some (tuple_of ps), pop.core.now.operands) → pop ≡ record old { core = over pop.core.now.operands old.core } → mid ≡ record pop { core = over (first_parts count ps pop.core.now.operands) pop.core } → new ≡ record mid { core = at_place (suc mid.core.now.at) mid.core } → Works old line (PartsOf count) new Paused
apart_goes old pop mid new line count ps t p m n =
    let ys = pop.core.now.operands in
    let there : new ≡ record old { core = at_place (suc old.core.now.at) (over (first_parts count ps ys) old.core) } =
    n
    ∙ ap (λ (s : Standing). record s { core = at_place (suc s.core.now.at) s.core }) m
    ∙ ap (λ (s : Standing). record s { core = at_place (suc s.core.now.at) (over (first_parts count ps ys) s.core) }) p in
    goes old new line (PartsOf count) (suc old.core.now.at) (first_parts count ps ys) there (λ w.
    let k = in_world w old.core in
    top_taken old.core.now.operands ys (Some (tuple_of ps)) (λ v xs. take_apart count v line xs k) t
    ∙ ap (λ qs. next (first_parts count qs ys) k) (part_list-parts_of ps))
