-- The tables from the names of declared variables.
use Rattle.std.proofs.Common.{◌≡◌, ◌∙◌, ◌<◌, ◌+◌, ◌≢◌, ℕ, zero, suc, List, [], ◌∷◌, map, drop, length, get_or, Option, Some, refl, sym, ap, subst, add-one, drop-cons}
use Rattle.std.specs.Prelude.{cond, bytes_eq, slice_get}
use Rattle.std.specs.Global.{Vec}
use Rattle.indexmap.specs.IndexMap.{IndexMap, insert_entry}
use Rattle.setl_modes.specs.Modes.{Mode}
use Rattle.setl_model_runs.specs.Variable.{Global, Own, Bound}
use Rattle.setl_program.specs.declared.program.Declared.{Declared}
use Rattle.setl_program.specs.code.Plain.{plain_declared}
use Rattle.setl_code.specs.declared.code.Code.{Code}
use Rattle.setl_code.specs.declared.code.OwnName.{OwnName}
use Rattle.setl_code.specs.declared.code.OwnName.TheVariants as name
use Rattle.setl_machine_control.specs.Declaring.{Modes, place_from, place_of}
use Rattle.setl_names.specs.ByName.{put_at, none_at, same_key, turned, value_at}
use Rattle.setl_machine_variables.specs.Tables.{Finds, Puts, name_place, names_by, KnowsSlots}
use Rattle.setl_machine_control.specs.Laws.{apart}

-- ---- one entry more

pub puts : {S T : Type 0} (m : IndexMap (Vec ℕ) ℕ S) (n : IndexMap (Vec ℕ) ℕ T) (key : Vec ℕ) (x : List ℕ) (at place : ℕ) → key.items ≡ x → place ≡ at → n.entries ≡ insert_entry same_key m.entries key place → Puts x at m n
puts m n key x at place ek ep en y =
    put_at m n key place en y
    ∙ ap (λ b. cond b (Some place) (value_at m y)) (turned y key.items)
    ∙ (λ i. cond (bytes_eq (ek i) y) (Some (ep i)) (value_at m y))

-- ---- one declaration more

pub finds_global : {S T U : Type 0} (at : ℕ) (x : List ℕ) (modes : Modes) (mode : Mode) (old : IndexMap (Vec ℕ) ℕ S) (new : IndexMap (Vec ℕ) ℕ T) (own : IndexMap (Vec ℕ) ℕ U) → Puts x at old new → Finds (suc at) modes old own → Finds at ((Global x, mode) ∷ modes) new own
finds_global at x modes mode old new own p f y = (p y ∙ ap (cond (bytes_eq x y) (Some at)) (f y).0, (f y).1)

pub finds_own : {S T U : Type 0} (at body : ℕ) (x : List ℕ) (modes : Modes) (mode : Mode) (globals : IndexMap (Vec ℕ) ℕ U) (old : IndexMap (Vec ℕ) ℕ S) (new : IndexMap (Vec ℕ) ℕ T) → body ≡ 0 → Puts x at old new → Finds (suc at) modes globals old → Finds at ((Own body x, mode) ∷ modes) globals new
finds_own at zero x modes mode globals old new none p f y = ((f y).0, p y ∙ ap (cond (bytes_eq x y) (Some at)) (f y).1)
finds_own at (suc n) x modes mode globals old new none p f y = absurd (cc)

pub finds_other : {S T : Type 0} (at body : ℕ) (x : List ℕ) (modes : Modes) (mode : Mode) (globals : IndexMap (Vec ℕ) ℕ S) (own : IndexMap (Vec ℕ) ℕ T) → body ≢ 0 → Finds (suc at) modes globals own → Finds at ((Own body x, mode) ∷ modes) globals own
finds_other at body x modes mode globals own some f y = ((f y).0, (f y).1 ∙ sym (ap (λ t. cond t (Some at) (place_from (suc at) modes (Own 0 y))) (apart body 0 x y some)))

pub finds_former : {S T : Type 0} (at former : ℕ) (x : List ℕ) (modes : Modes) (mode : Mode) (globals : IndexMap (Vec ℕ) ℕ S) (own : IndexMap (Vec ℕ) ℕ T) → Finds (suc at) modes globals own → Finds at ((Bound former x, mode) ∷ modes) globals own
finds_former at former x modes mode globals own f y = f y

-- no declarations
pub finds_none : {S T : Type 0} (globals : IndexMap (Vec ℕ) ℕ S) (own : IndexMap (Vec ℕ) ℕ T) (at : ℕ) (ds : List Declared) → globals.entries ≡ [] → own.entries ≡ [] → drop at ds ≡ [] → Finds at (map plain_declared (drop at ds)) globals own
finds_none globals own at ds eg eo ed y = (
  none_at globals eg y ∙ sym (ap (λ (ds : List Declared). place_from at (map plain_declared ds) (Global y)) ed),
  none_at own eo y ∙ sym (ap (λ (ds : List Declared). place_from at (map plain_declared ds) (Own 0 y)) ed),
)

-- the declarations from the one before on
pub one_before : (ds : List Declared) (at next : ℕ) (d : Declared) → next + 1 ≡ at → next < length ds → d ≡ get_or ds next d → drop next ds ≡ d ∷ drop at ds
one_before ds at next d ea h ed =
    drop-cons ds next d h ∙ ap (λ (z : Declared). z ∷ drop (suc next) ds) (sym ed) ∙ ap (λ k. d ∷ drop k ds) (sym (add-one next) ∙ ea)

pub finds_before : {S T : Type 0} (globals : IndexMap (Vec ℕ) ℕ S) (own : IndexMap (Vec ℕ) ℕ T) (ds : List Declared) (at next : ℕ) (d : Declared) → next + 1 ≡ at → next < length ds → d ≡ get_or ds next d → Finds next (plain_declared d ∷ map plain_declared (drop at ds)) globals own → Finds next (map plain_declared (drop next ds)) globals own
finds_before globals own ds at next d ea h ed f = subst (λ (ds : List Declared). Finds next (map plain_declared ds) globals own) (sym (one_before ds at next d ea h ed)) f

-- ---- all slots

map_alike : {A B : Type 0} (f g : A → B) (xs : List A) → ((x : A) → f x ≡ g x) → map f xs ≡ map g xs
map_alike f g [] h = refl
map_alike f g (x ∷ xs) h = λ i. h x i ∷ map_alike f g xs h i

name_alike : (f g : List ℕ → Option ℕ) → ((x : List ℕ) → f x ≡ g x) → (n : OwnName) → name_place f n ≡ name_place g n
name_alike f g h (name.Body x) = h x
name_alike f g h (name.Former former x) = refl

pub knows_slots : {S T : Type 0} (c : Code) (ds : List Declared) (at : ℕ) (globals : IndexMap (Vec ℕ) ℕ S) (own : IndexMap (Vec ℕ) ℕ T) (seen main : List (Option ℕ)) → at ≡ 0 → Finds at (map plain_declared (drop at ds)) globals own →
    seen ≡ map (value_at globals) c.vars → main ≡ map (name_place (value_at own)) (names_by (slice_get c.bodies 0)) → KnowsSlots c (map plain_declared ds) seen main
knows_slots c ds at globals own seen main ea f es em =
    let g : Finds 0 (map plain_declared ds) globals own = subst (λ n. Finds n (map plain_declared (drop n ds)) globals own) ea f in record {
      seen = es ∙ map_alike (value_at globals) (λ x. place_of (map plain_declared ds) (Global x)) c.vars (λ x. (g x).0);
      main =
          em
          ∙ map_alike (name_place (value_at own)) (name_place (λ x. place_of (map plain_declared ds) (Own 0 x))) (names_by (slice_get c.bodies 0))
          (name_alike (value_at own) (λ x. place_of (map plain_declared ds) (Own 0 x)) (λ x. (g x).1));
    }
