-- Sets and tuples of members of collections.
use Rattle.std.proofs.Common.{◌≡◌, ◌<◌, Bool, true, false, List, [], ◌∷◌, ◌++◌, map, reverse, refl, sym, ap, ◌∙◌, subst, arith, Option, Some, None}
use Rattle.std.specs.Prelude.{nat_le, if◌then◌else◌}
use Rattle.std.proofs.lemmas.List.{map-append, reverse-append, reverse-reverse}
use Rattle.std.proofs.lemmas.Bool.Decides.{nat_tests}
use Rattle.setl_value.specs.declared.Value.{Value}
use Rattle.setl_value.specs.Datum.{Datum, depth, parts_depth, parts_of, elements_depth, elements_of, set_of, tuple_of}
use Rattle.setl_value.specs.code.DatumOf.{datum, part}
use Rattle.setl_value.specs.WellFormed.{trim}
use Rattle.setl_set.specs.Sets.{set_from}
use Rattle.setl_operators_table.specs.Outcome.{OmFault, DeepFault, all_values, one_more}
use Rattle.setl_program.specs.declared.kinds.Collection.{Collection}
use Rattle.setl_program.specs.declared.kinds.Collection.TheVariants.{OfSet, OfTuple}
use Rattle.setl_model.specs.Collections.{collected, collection}
use Rattle.setl_store_operands.specs.declared.cells.Member.{Member}
use Rattle.setl_store_operands.specs.Operands.{GotAll, member_of, present}
use Rattle.setl_store_operands.proofs.Lists.{map_reverse}

-- ---- what isn't refused

none_refused : (b : Bool) → (if b then Some DeepFault else None) ≡ None → b ≡ false
none_refused true e = cc
none_refused false e = refl

below_limit : (d : Datum) → (if nat_le 500 (depth d) then Some DeepFault else None) ≡ None → depth d < 500
below_limit d e = let b = none_refused (nat_le 500 (depth d)) e in grind (arith, nat_tests)

pub shallow_parts : (vs : List (Option Datum)) → GotAll OfTuple vs → parts_depth (parts_of vs) < 500
shallow_parts [] g = omega arith
shallow_parts (None ∷ vs) g = shallow_parts vs g.1
shallow_parts (Some d ∷ vs) g = omega (arith, below_limit d g.0, shallow_parts vs g.1)

pub shallow_present : (vs : List (Option Datum)) → GotAll OfSet vs → elements_depth (elements_of (present vs)) < 500
shallow_present [] g = omega arith
shallow_present (None ∷ vs) g = shallow_present vs g.1
shallow_present (Some d ∷ vs) g = omega (arith, below_limit d g.0, shallow_present vs g.1)

-- a set has no `om`
pub all_present : (vs : List (Option Datum)) → GotAll OfSet vs → all_values vs ≡ Some (present vs)
all_present [] g = refl
all_present (None ∷ vs) g = let e : Some OmFault ≡ None = g.0 in absurd (cc)
all_present (Some d ∷ vs) g = ap (one_more d) (all_present vs g.1)

got_both : (what : Collection) (xs ys : List (Option Datum)) → GotAll what (xs ++ ys) → GotAll what xs × GotAll what ys
got_both what [] ys g = (tt, g)
got_both what (x ∷ xs) ys g = let r = got_both what xs ys g.1 in ((g.0, r.0), r.1)

pub got_reversed : (what : Collection) (xs : List (Option Datum)) → GotAll what (reverse xs) → GotAll what xs
got_reversed what [] g = tt
got_reversed what (x ∷ xs) g =
    let r = got_both what (reverse xs) (x ∷ []) (subst (GotAll what) (reverse-append (x ∷ []) xs) g) in
    (r.1.0, got_reversed what xs r.0)

-- ---- the set and the tuple

-- the latest first, which have these values
pub reversed_present : (members latest : List Member) (values : List Value) → latest ≡ reverse members → map datum values ≡ present (map member_of latest) → map datum values ≡ present (reverse (map member_of members))
reversed_present members latest values e h = h ∙ ap (λ l. present (map member_of l)) e ∙ ap present (map_reverse member_of members)

pub set_is : (vs : List (Option Datum)) (ds : List Datum) → GotAll OfSet vs → ds ≡ present vs → set_of (set_from ds) ≡ collection OfSet vs
set_is vs ds g e = ap (λ l. set_of (set_from l)) e ∙ sym (ap (collected OfSet (reverse vs)) (all_present vs g))

pub tuple_is : (vs : List (Option Datum)) → tuple_of (trim vs) ≡ collection OfTuple (reverse vs)
tuple_is vs = ap (λ l. tuple_of (trim l)) (sym (reverse-reverse vs))

present_more : (xs : List (Option Datum)) (v : Option Datum) → present (xs ++ v ∷ []) ≡ present xs ++ present (v ∷ [])
present_more [] v = refl
present_more (None ∷ xs) v = present_more xs v
present_more (Some d ∷ xs) v = ap (λ l. d ∷ l) (present_more xs v)

-- components
pub parts_are : (members : List Member) (values : List (Option Value)) → values ≡ map (λ m. m.value) members → map part values ≡ map member_of members
parts_are members values e = ap (map part) e ∙ along members
  where
    along : (ms : List Member) → map part (map (λ m. m.value) ms) ≡ map member_of ms
    along [] = refl
    along (m ∷ ms) = ap (λ l. member_of m ∷ l) (along ms)

pub present_after : (values : List Value) (m : Member) (yielded : List Member) → map datum values ≡ present (map member_of yielded) → map datum values ++ present (member_of m ∷ []) ≡ present (map member_of (yielded ++ m ∷ []))
present_after values m yielded h =
    ap (λ l. l ++ present (member_of m ∷ [])) h
    ∙ sym (present_more (map member_of yielded) (member_of m))
    ∙ ap present (sym (map-append member_of yielded (m ∷ [])))
