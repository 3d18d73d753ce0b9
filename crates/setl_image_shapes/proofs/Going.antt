-- The walk, from its start to its end.
use Rattle.std.proofs.Common.{◌≡◌, ℕ, zero, suc, ◌+◌, ◌<◌, ◌≤◌, Bool, true, false, List, [], ◌∷◌, ◌++◌, length, get_or, slice_get, replicate, Option, Some, None, option_map, refl, sym, ap, ◌∙◌, subst, arith}
use Rattle.std.specs.Prelude.{Result, Ok, Err, IfOk}
use Rattle.std.proofs.lemmas.List.{length-replicate}
use Rattle.setl_code.specs.Shapes.{Shape, Outs}
use Rattle.setl_code.specs.Sound.{Table, shape_at}
use Rattle.setl_image_shapes.specs.declared.effect.Effect.{Effect}
use Rattle.setl_image_shapes.specs.declared.effect.Place.{Place}
use Rattle.setl_image_shapes.specs.declared.effect.Ways.{Ways}
use Rattle.setl_image_shapes.specs.declared.effect.Ways.TheVariants.{Two}
use Rattle.setl_image_shapes.specs.declared.walk.Walk.{Walk}
use Rattle.setl_image_shapes.specs.Runs.{Grown}
use Rattle.setl_image_shapes.specs.Effects.{leads, outs_of, AreWays, Led}
use Rattle.setl_image_shapes.specs.Tables.{table_of, AreThere, Came, Arrived, Refused, Going, GoesOn, IsTable, HasTable, unreached}
use Rattle.setl_image_shapes.proofs.Arriving.{contains_last, arrive_none, arrive_both, refused_first, refused_second}
use Rattle.setl_image_shapes.proofs.Parting.{grown_same, grown_on}
use Rattle.setl_image_shapes.proofs.Walking.{begins, never_begins, goes_on, goes_past, no_way, no_table, ends}
use Rattle.setl_image_shapes.proofs.Finding.{table_grown, table_long, table_at, none_at, none_unreached, Kept}

-- ---- arrivals

pub came_nowhere : (w : Walk) → AreThere w.stacks w.found.items → Came true w [] w
came_nowhere w there = (there, grown_same w.stacks, arrive_none (table_of w.stacks w.found.items) w.pending.items)

-- the first of two shapes was refused
pub came_first : (w v : Walk) (o q : ℕ × Shape) → Came false w (o ∷ []) v → Came false w (o ∷ q ∷ []) v
came_first w v o q came = (came.0, came.1, refused_first (table_of w.stacks w.found.items) o q came.2)

pub came_second : (so : Bool) (w m v : Walk) (o : ℕ × Shape) (step stack : ℕ) → stack < length w.stacks → Came true w (o ∷ []) m → Came so m ((step, get_or m.stacks stack []) ∷ []) v → Came so w (o ∷ (step, get_or w.stacks stack []) ∷ []) v
came_second true w m v o step stack less first second =
    let same : get_or m.stacks stack [] ≡ get_or w.stacks stack [] = (first.1 stack less).1 in
    let both = arrive_both (table_of w.stacks w.found.items) (table_of m.stacks m.found.items) (table_of v.stacks v.found.items) w.pending.items m.pending.items v.pending.items o (step, get_or m.stacks stack []) first.2 second.2 in
    (second.0, grown_on w.stacks m.stacks v.stacks first.1 second.1, subst (λ (s : Shape). Arrived (table_of w.stacks w.found.items) w.pending.items (o ∷ (step, s) ∷ []) (table_of v.stacks v.found.items) v.pending.items) same both)
came_second false w m v o step stack less first second =
    let same : get_or m.stacks stack [] ≡ get_or w.stacks stack [] = (first.1 stack less).1 in
    let both = refused_second (table_of w.stacks w.found.items) (table_of m.stacks m.found.items) w.pending.items m.pending.items o (step, get_or m.stacks stack []) first.2 second.2 in
    (second.0, grown_on w.stacks m.stacks v.stacks first.1 second.1, subst (λ (s : Shape). Refused (table_of w.stacks w.found.items) (o ∷ (step, s) ∷ [])) same both)

-- the same for an answer
pub answer_second : {E : Type 0} (r : Result Bool E) (w m v : Walk) (so : Bool) (place other : Place) (ways : Ways) → ways ≡ Two place other → AreWays w.stacks ways → so ≡ true → Came so w ((place.step, get_or w.stacks place.stack []) ∷ []) m → IfOk r (λ b. Came b m ((other.step, get_or m.stacks other.stack []) ∷ []) v) → IfOk r (λ b. Came b w (outs_of w.stacks ways) v)
answer_second (Err e) w m v so place other ways is are first came second = tt
answer_second (Ok b) w m v so place other ways is are first came second =
    let less : (place.stack < length w.stacks) × (other.stack < length w.stacks) = subst (AreWays w.stacks) is are in
    let now : Came true w ((place.step, get_or w.stacks place.stack []) ∷ []) m = subst (λ x. Came x w ((place.step, get_or w.stacks place.stack []) ∷ []) m) first came in
    subst (λ (ws : Ways). Came b w (outs_of w.stacks ws) v) (sym is) (came_second b w m v (place.step, get_or w.stacks place.stack []) other.step other.stack less.1 now second)

-- ---- one step

known_at : (w : Walk) (at number : ℕ) → get_or w.found.items at None ≡ Some number → shape_at (table_of w.stacks w.found.items) at ≡ Some (get_or w.stacks number [])
known_at w at number is = table_at w.stacks w.found.items at ∙ ap (option_map (λ k. get_or w.stacks k [])) is

table_kept : (w m : Walk) → Kept w m → AreThere w.stacks w.found.items → table_of m.stacks m.found.items ≡ table_of w.stacks w.found.items
table_kept w m kept there = ap (table_of m.stacks) kept.found ∙ table_grown w.stacks m.stacks w.found.items kept.grown there

next_is : (at : ℕ) → suc at ≡ at + 1
next_is at = omega arith

pub step_past : (effects : List Effect) (w : Walk) (at : ℕ) → AreThere w.stacks w.found.items → Going effects (table_of w.stacks w.found.items) (w.pending.items ++ at ∷ []) → get_or w.found.items at None ≡ None → GoesOn true effects w w
step_past effects w at there going none =
    let is : shape_at (table_of w.stacks w.found.items) at ≡ None = table_at w.stacks w.found.items at ∙ ap (option_map (λ k. get_or w.stacks k [])) none in
    (there, goes_past effects (table_of w.stacks w.found.items) w.pending.items at going is, omega arith)

pub step_lacks : (effects : List Effect) (w : Walk) (at number : ℕ) (e : Effect) → Going effects (table_of w.stacks w.found.items) (w.pending.items ++ at ∷ []) → slice_get effects at ≡ Some e → get_or w.found.items at None ≡ Some number → leads e (at + 1) (get_or w.stacks number []) ≡ None → (table : Table) → IsTable effects table → ⊥
step_lacks effects w at number e going has is none =
    no_way effects (table_of w.stacks w.found.items) (w.pending.items ++ at ∷ []) at e (get_or w.stacks number []) going has (known_at w at number is) (ap (λ n. leads e n (get_or w.stacks number [])) (next_is at) ∙ none)

pub step_goes : (so : Bool) (effects : List Effect) (w m v : Walk) (at number : ℕ) (e : Effect) (os : List (ℕ × Shape)) → Kept w m → AreThere w.stacks w.found.items → Going effects (table_of w.stacks w.found.items) (w.pending.items ++ at ∷ []) → slice_get effects at ≡ Some e → get_or w.found.items at None ≡ Some number → leads e (at + 1) (get_or w.stacks number []) ≡ Some os → Came so m os v → GoesOn so effects w v
step_goes true effects w m v at number e os kept there going has is led came =
    let arrived = subst (λ (t : Table). Arrived t w.pending.items os (table_of v.stacks v.found.items) v.pending.items) (table_kept w m kept there) (subst (λ (p : List ℕ). Arrived (table_of m.stacks m.found.items) p os (table_of v.stacks v.found.items) v.pending.items) kept.pending came.2) in
    let g = goes_on effects (table_of w.stacks w.found.items) (table_of v.stacks v.found.items) w.pending.items v.pending.items at e (get_or w.stacks number []) os going has (known_at w at number is) (ap (λ n. leads e n (get_or w.stacks number [])) (next_is at) ∙ led) arrived in
    (came.0, g.0, g.1)
step_goes false effects w m v at number e os kept there going has is led came =
    no_table effects (table_of w.stacks w.found.items) (w.pending.items ++ at ∷ []) at e (get_or w.stacks number []) os going has (known_at w at number is) (ap (λ n. leads e n (get_or w.stacks number [])) (next_is at) ∙ led) (subst (λ (t : Table). Refused t os) (table_kept w m kept there) came.2)

-- ---- the start

module _ (effects : List Effect) (w : Walk) (stacks : w.stacks ≡ [] ∷ []) (found : w.found.items ≡ replicate (length effects) None) where
  start_size : length (table_of w.stacks w.found.items) ≡ length effects
  start_size = table_long w.stacks w.found.items ∙ ap length found ∙ length-replicate (length effects) None

  start_none : (at : ℕ) → shape_at (table_of w.stacks w.found.items) at ≡ None
  start_none at = subst (λ (f : List (Option ℕ)). shape_at (table_of w.stacks f) at ≡ None) (sym found) (none_at w.stacks (length effects) at)

  start_all : unreached (table_of w.stacks w.found.items) ≤ length (table_of w.stacks w.found.items)
  start_all =
      let few : unreached (table_of w.stacks w.found.items) ≤ length effects = subst (λ (f : List (Option ℕ)). unreached (table_of w.stacks f) ≤ length effects) (sym found) (none_unreached w.stacks (length effects)) in
      omega (arith, few, start_size)

  start_shape : get_or w.stacks 0 [] ≡ []
  start_shape = ap (λ (s : List Shape). get_or s 0 []) stacks

  pub start_goes : (v : Walk) → w.pending.items ≡ [] → Came true w ((0, get_or w.stacks 0 []) ∷ []) v → Going effects (table_of v.stacks v.found.items) v.pending.items
  start_goes v pending came =
      let arrived = subst (λ (p : List ℕ). Arrived (table_of w.stacks w.found.items) p ((0, []) ∷ []) (table_of v.stacks v.found.items) v.pending.items) pending (subst (λ (s : Shape). Arrived (table_of w.stacks w.found.items) w.pending.items ((0, s) ∷ []) (table_of v.stacks v.found.items) v.pending.items) start_shape came.2) in
      begins effects (table_of w.stacks w.found.items) (table_of v.stacks v.found.items) v.pending.items start_size start_none start_all arrived

  pub start_fails : (v : Walk) → Came false w ((0, get_or w.stacks 0 []) ∷ []) v → (table : Table) → IsTable effects table → ⊥
  start_fails v came = never_begins effects (table_of w.stacks w.found.items) start_size start_none (subst (λ (s : Shape). Refused (table_of w.stacks w.found.items) ((0, s) ∷ [])) start_shape came.2)

  pub start_there : AreThere w.stacks w.found.items
  start_there at k is = absurd (none (length effects) at k (sym (ap (λ (f : List (Option ℕ)). get_or f at None) found) ∙ is))
    where
      none : (n at k : ℕ) → get_or (replicate n None) at None ≡ Some k → ⊥
      none zero at k h = cc
      none (suc n) zero k h = cc
      none (suc n) (suc at) k h = none n at k h

-- ---- the end

pub end_table : (effects : List Effect) (w : Walk) → Going effects (table_of w.stacks w.found.items) w.pending.items → w.pending.items ≡ [] → HasTable true effects
end_table effects w going empty = (table_of w.stacks w.found.items, ends effects (table_of w.stacks w.found.items) (subst (Going effects (table_of w.stacks w.found.items)) empty going))

pub step_answer : {E : Type 0} (r : Result Bool E) (effects : List Effect) (w m v : Walk) (at number : ℕ) (e : Effect) (os : List (ℕ × Shape)) → Kept w m → AreThere w.stacks w.found.items → Going effects (table_of w.stacks w.found.items) (w.pending.items ++ at ∷ []) → slice_get effects at ≡ Some e → get_or w.found.items at None ≡ Some number → leads e (at + 1) (get_or w.stacks number []) ≡ Some os → IfOk r (λ so. Came so m os v) → IfOk r (λ so. GoesOn so effects w v)
step_answer (Err x) effects w m v at number e os kept there going has is led came = tt
step_answer (Ok so) effects w m v at number e os kept there going has is led came = step_goes so effects w m v at number e os kept there going has is led came

-- a step that is pending is there
pub step_inside : (effects : List Effect) (w : Walk) (at : ℕ) → Going effects (table_of w.stacks w.found.items) (w.pending.items ++ at ∷ []) → (at < length effects) × (at < length w.found.items)
step_inside effects w at going =
    let inside = going.pending at (contains_last w.pending.items at) in
    (inside, omega (arith, inside, going.size, table_long w.stacks w.found.items))

pub get_is : {A : Type 0} (xs : List A) (k : ℕ) (d : A) → k < length xs → slice_get xs k ≡ Some (get_or xs k d)
get_is [] k d less = absurd (omega (arith, less))
get_is (x ∷ xs) zero d less = refl
get_is (x ∷ xs) (suc k) d less = get_is xs k d (omega (arith, less))

pub led_none : (old new : List Shape) (f : Option Ways) (outs : Outs) → f ≡ None → Led old new f outs → outs ≡ None
led_none old new f outs is led = (subst (λ (x : Option Ways). Led old new x outs) is led).1

pub led_some : (old new : List Shape) (f : Option Ways) (ways : Ways) (outs : Outs) → f ≡ Some ways → Led old new f outs → Grown old new × (outs ≡ Some (outs_of new ways))
led_some old new f ways outs is led = let l : Led old new (Some ways) outs = subst (λ (x : Option Ways). Led old new x outs) is led in (l.0, l.1.1)

pub empty_from : (xs : List ℕ) → length xs ≡ 0 → xs ≡ []
empty_from [] none = refl
empty_from (x ∷ xs) none = absurd (omega (arith, none))
