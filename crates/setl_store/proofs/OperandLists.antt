-- Changes of the operands of the body at work.
use Rattle.std.proofs.Common.{◌≡◌, ℕ, zero, suc, ◌+◌, ◌-◌, ◌<◌, ◌≤◌, List, [], ◌∷◌, ◌++◌, length, take, drop, map, reverse, refl, sym, ap, ◌∙◌, subst, arith, Bool, true, false, Some, None}
use Rattle.std.proofs.lemmas.List.{drop-append-le, take_at, drop_at, length-take-le, length-map, map-append, length_push, reverse-append, reverse-reverse, take-append-drop, append_assoc, drop-take, take-take, take-map, length-drop, length-reverse}
use Rattle.std.specs.Prelude.{slice_get}
use Rattle.setl_program.specs.declared.kinds.Collection.{Collection}
use Rattle.setl_model.specs.Core.{Item}
use Rattle.setl_code.specs.declared.code.Code.{Code}
use Rattle.setl_code.specs.Code as plain
use Rattle.setl_code.specs.CodeCore as core
use Rattle.setl_code.specs.CodeCore.{Cells, Activation, CodeCore}
use Rattle.setl_code.specs.MayRun.{MayRun}
use Rattle.setl_code.specs.Plain.{plain_code}
use Rattle.setl_rep_bases.specs.Bases.{BasesState}
use Rattle.setl_store.specs.declared.cells.Frame.{Frame}
use Rattle.setl_store_slots.specs.Slots.{AreStanding}
use Rattle.setl_store_slots.specs.declared.cells.Held.{Held}
use Rattle.setl_store_operands.specs.declared.cells.Member.{Member}
use Rattle.setl_store_operands.specs.declared.cells.Operand.{Operand}
use Rattle.setl_store_operands.specs.declared.cells.Operand.TheVariants as operand
use Rattle.setl_store.specs.declared.store.Top.TheVariants as top
use Rattle.setl_store_operands.specs.Operands.{IsOperandOver, HasMembers, got, iterator_by, member_of, members_below, operand_of}
use Rattle.setl_store.specs.Standing.{Standing, no_world, over, Shows}
use Rattle.setl_store.specs.declared.cells.Kept.{Kept}
use Rattle.setl_store.specs.Flat.{Here, operands_in, lowest_in, activation, callers, cells, core_of, copies_of, bases_of, stands, held_of, helds, results, GotThese, AllGot, IsShaped, IsSound, AllSound, with_operand, now_operands, cut_to}
use Rattle.setl_store.proofs.StandingOperands.{over_append, over_take}
use Rattle.setl_store.proofs.Lists.{last_apart, map_reverse, take_more_reversed}

-- ---- the flat list of operands

lowest_within : (c : plain.Code) (fs : List Frame) (n m : ℕ) → IsShaped c fs n m → lowest_in fs ≤ m
lowest_within c [] n m h = absurd h
lowest_within c (f ∷ []) n m h = omega (arith, h.2)
lowest_within c (f ∷ g ∷ fs) n m h = h.1

-- it ends in the operands of the body at work, the top last
split : (c : plain.Code) (fs : List Frame) (n : ℕ) (os : List core.Operand) → IsShaped c fs n (length os) → os ≡ take (lowest_in fs) os ++ reverse (operands_in fs os)
split c [] n os h = absurd h
split c (f ∷ fs) n os h = sym (take-append-drop f.operands os) ∙ ap (λ l. take f.operands os ++ l) (sym (reverse-reverse (drop f.operands os)))

in_above : (c : plain.Code) (fs : List Frame) (n : ℕ) (os xs : List core.Operand) → IsShaped c fs n (length os) → operands_in fs (take (lowest_in fs) os ++ reverse xs) ≡ xs
in_above c [] n os xs h = absurd h
in_above c (f ∷ fs) n os xs h = ap reverse (drop_at (take f.operands os) (reverse xs) f.operands (length-take-le f.operands os (lowest_within c (f ∷ fs) n (length os) h))) ∙ reverse-reverse xs

callers_above : (c : plain.Code) (fs : List Frame) (hs : List core.Held) (n : ℕ) (os ys : List core.Operand) → IsShaped c fs n (length os) → callers c fs hs (take (lowest_in fs) os ++ ys) ≡ callers c fs hs os
callers_above c [] hs n os ys h = refl
callers_above c (f ∷ []) hs n os ys h = refl
callers_above c (f ∷ g ∷ fs) hs n os ys h =
    ap (λ l. activation c f.from (g ∷ fs) (take f.slots hs) l ∷ callers c (g ∷ fs) (take f.slots hs) l) (take_at (take f.operands os) ys f.operands (length-take-le f.operands os h.1))

reshaped : (c : plain.Code) (fs : List Frame) (n m k : ℕ) → lowest_in fs ≤ k → IsShaped c fs n m → IsShaped c fs n k
reshaped c [] n m k h s = s
reshaped c (f ∷ []) n m k h s = s
reshaped c (f ∷ g ∷ fs) n m k h s = (s.0, h, s.2)

-- the number of the lowest operand of the body at work
abbrev pub lowest_of : Here → ℕ
lowest_of e = lowest_in (reverse e.activations)

shaped_results : (c : plain.Code) (bs : BasesState) (e : Here) → IsSound c bs e → IsShaped c (reverse e.activations) (length e.slots) (length (results bs e))
shaped_results c bs e h = subst (λ n. IsShaped c (reverse e.activations) (length e.slots) n) (sym (length-map e.operands (operand_of bs e.members))) h.shaped

pub lowest_below : (c : plain.Code) (bs : BasesState) (e : Here) → IsSound c bs e → lowest_of e ≤ length e.operands
lowest_below c bs e h = lowest_within c (reverse e.activations) (length e.slots) (length e.operands) h.shaped

-- ---- the members of collections

-- the operands stand for the same over members that are the same as far as they have any
agree : (bs : BasesState) (os : List Operand) (k : ℕ) (ms ns : List Member) → HasMembers os k → take k ms ≡ take k ns → map (operand_of bs ms) os ≡ map (operand_of bs ns) os
agree bs [] k ms ns h e = refl
agree bs (operand.Om ∷ os) k ms ns h e = ap (λ l. core.Result None ∷ l) (agree bs os k ms ns h e)
agree bs (operand.Value v ∷ os) k ms ns h e = ap (λ l. operand_of bs ms (operand.Value v) ∷ l) (agree bs os k ms ns h e)
agree bs (operand.Based f ∷ os) k ms ns h e = ap (λ l. operand_of bs ms (operand.Based f) ∷ l) (agree bs os k ms ns h e)
agree bs (operand.Iterator i ∷ os) k ms ns h e = ap (λ l. operand_of bs ms (operand.Iterator i) ∷ l) (agree bs os k ms ns h e)
agree bs (operand.Collection what lowest count ∷ os) k ms ns h e =
    let lower = sym (take-take lowest k ms (omega (arith, h.0))) ∙ ap (take lowest) e ∙ take-take lowest k ns (omega (arith, h.0)) in
    let whole : take (lowest + count) ms ≡ take (lowest + count) ns = subst (λ n. take n ms ≡ take n ns) h.0 e in
    let same : got ms lowest count ≡ got ns lowest count = ap (λ l. reverse (map member_of l)) (sym (drop-take lowest count ms) ∙ ap (drop lowest) whole ∙ drop-take lowest count ns) in
    λ i. core.Collecting what (same i) ∷ agree bs os lowest ms ns h.1 lower i

-- the same, for a list of operands with the top last
pub agree_flat : (bs : BasesState) (os : List Operand) (k : ℕ) (ms ns : List Member) → HasMembers (reverse os) k → take k ms ≡ take k ns → map (operand_of bs ms) os ≡ map (operand_of bs ns) os
agree_flat bs os k ms ns h e =
    sym (reverse-reverse (map (operand_of bs ms) os))
    ∙ ap reverse (sym (map_reverse (operand_of bs ms) os) ∙ agree bs (reverse os) k ms ns h e ∙ map_reverse (operand_of bs ns) os)
    ∙ reverse-reverse (map (operand_of bs ns) os)

pub got_append : (xs ys : List core.Operand) → AllGot xs → AllGot ys → AllGot (xs ++ ys)
got_append [] ys a b = b
got_append (x ∷ xs) ys a b = (a.0, got_append xs ys a.1 b)

pub got_take : (n : ℕ) (xs : List core.Operand) → AllGot xs → AllGot (take n xs)
got_take zero xs a = tt
got_take (suc n) [] a = tt
got_take (suc n) (x ∷ xs) a = (a.0, got_take n xs a.1)

pub got_left : (xs ys : List core.Operand) → AllGot (xs ++ ys) → AllGot xs
got_left [] ys a = tt
got_left (x ∷ xs) ys a = (a.0, got_left xs ys a.1)

pub got_right : (xs ys : List core.Operand) → AllGot (xs ++ ys) → AllGot ys
got_right [] ys a = a
got_right (x ∷ xs) ys a = got_right xs ys a.1

-- ---- what the store then is

abbrev core_with : plain.Code → BasesState → ℕ → List Frame → List Held → List core.Operand → List (Here × Kept) → CodeCore
core_with c bs at acts ss os kept = record {
  globals = cells c.vars (map (held_of bs) ss);
  now = activation c at (reverse acts) (map (held_of bs) ss) os;
  callers = callers c (reverse acts) (map (held_of bs) ss) os;
  kept = copies_of c bs kept;
  world = no_world;
}

-- other operands of the body at work
pub above : (c : plain.Code) (bs : BasesState) (at : ℕ) (e e' : Here) (kept : List (Here × Kept)) (xs : List core.Operand) → IsSound c bs e →
    e'.activations ≡ e.activations → e'.slots ≡ e.slots → results bs e' ≡ take (lowest_of e) (results bs e) ++ reverse xs →
    core_of c bs at e' kept ≡ over xs (core_of c bs at e kept)
above c bs at e e' kept xs h acts slots os =
    let fs = reverse e.activations in
    let shaped = shaped_results c bs e h in
    let inner = ap (operands_in fs) os ∙ in_above c fs (length e.slots) (results bs e) xs shaped in
    let outer = ap (callers c fs (helds bs e)) os ∙ callers_above c fs (helds bs e) (length e.slots) (results bs e) (reverse xs) shaped in
    ap (λ l. core_with c bs at l e'.slots (results bs e') kept) acts
    ∙ ap (λ ss. core_with c bs at e.activations ss (results bs e') kept) slots
    ∙ (λ i. record (core_of c bs at e kept) { now = record (core_of c bs at e kept).now { operands = inner i }; callers = outer i })

-- the store over an environment that was changed, and that all that always holds still does
pub record Changed (code : Code) (bs : BasesState) (keeps : ℕ) (at : ℕ) (e : Here) (kept : List (Here × Kept)) (s : Standing) (k : CodeCore) : Type 0 where
  pub stands : stands code bs at e kept ≡ record s { core = k }
  pub holds : MayRun code × IsSound (plain_code code) bs e × AllSound (plain_code code) bs keeps e.slots kept

-- the same of other slots that stand
pub still : (c : plain.Code) (bs : BasesState) (keeps : ℕ) (hs gs : List Held) (kept kept' : List (Here × Kept)) → AreStanding bs gs → kept' ≡ kept → AllSound c bs keeps hs kept → AllSound c bs keeps gs kept'
still c bs keeps hs gs kept kept' stand same h = subst (AllSound c bs keeps gs) (sym same) (record { standing = stand; older = h.older; cuts = h.cuts; few = h.few })

-- where the core is a function of the one before
pub changed : (code : Code) (bs : BasesState) (keeps : ℕ) (at at' : ℕ) (e e' : Here) (kept kept' : List (Here × Kept)) (s : Standing) (f : CodeCore → CodeCore) →
    MayRun code × IsSound (plain_code code) bs e × AllSound (plain_code code) bs keeps e.slots kept → stands code bs at e kept ≡ s → kept' ≡ kept →
    core_of (plain_code code) bs at' e' kept ≡ f (core_of (plain_code code) bs at e kept) → IsSound (plain_code code) bs e' → AreStanding bs e'.slots →
    Changed code bs keeps at' e' kept' s (f s.core)
changed code bs keeps at at' e e' kept kept' s f h is same to sound stand = record {
  stands =
      ap (λ x. stands code bs at' e' x) same
      ∙ ap (λ (k : CodeCore). record { code = code; core = k; bases = bases_of bs kept }) to
      ∙ ap (λ (x : Standing). record x { core = f x.core }) is;
  holds = (h.0, sound, still (plain_code code) bs keeps e.slots e'.slots kept kept' stand same h.2);
}

-- ---- pushing

results_pushed : (bs : BasesState) (e : Here) (o : Operand) → results bs (with_operand e o) ≡ results bs e ++ operand_of bs e.members o ∷ []
results_pushed bs e o = map-append (operand_of bs e.members) e.operands (o ∷ [])

-- the operands with one more
flat_pushed : (c : plain.Code) (bs : BasesState) (e : Here) (o : Operand) → IsSound c bs e →
    results bs (with_operand e o) ≡ take (lowest_of e) (results bs e) ++ reverse (operand_of bs e.members o ∷ now_operands bs e)
flat_pushed c bs e o h =
    results_pushed bs e o
    ∙ ap (λ l. l ++ operand_of bs e.members o ∷ []) (split c (reverse e.activations) (length e.slots) (results bs e) (shaped_results c bs e h))
    ∙ append_assoc (take (lowest_of e) (results bs e)) (reverse (now_operands bs e)) (operand_of bs e.members o ∷ [])
    ∙ ap (λ l. take (lowest_of e) (results bs e) ++ l) (sym (reverse-append (operand_of bs e.members o ∷ []) (now_operands bs e)))

sound_pushed : (c : plain.Code) (bs : BasesState) (e : Here) (o : Operand) → IsSound c bs e → HasMembers (o ∷ reverse e.operands) (length e.members) → GotThese (operand_of bs e.members o) → IsOperandOver bs o → IsSound c bs (with_operand e o)
sound_pushed c bs e o h has got over_them = record {
  some = h.some;
  shaped = reshaped c (reverse e.activations) (length e.slots) (length e.operands) (length (e.operands ++ o ∷ [])) (omega (arith, lowest_below c bs e h, length_push e.operands o)) h.shaped;
  members = subst (λ os. HasMembers os (length e.members)) (sym (reverse-append e.operands (o ∷ []))) has;
  got = subst AllGot (sym (results_pushed bs e o)) (got_append (results bs e) (operand_of bs e.members o ∷ []) h.got (got, tt));
  operands = over_append bs e.operands (o ∷ []) h.operands (over_them, tt);
}

pub pushes : (code : Code) (bs : BasesState) (keeps : ℕ) (at : ℕ) (e e' : Here) (kept kept' : List (Here × Kept)) (s : Standing) (o : Operand) (p : core.Operand) →
    MayRun code × IsSound (plain_code code) bs e × AllSound (plain_code code) bs keeps e.slots kept → stands code bs at e kept ≡ s →
    e' ≡ with_operand e o → kept' ≡ kept → HasMembers (o ∷ reverse e.operands) (length e.members) → GotThese p → IsOperandOver bs o → operand_of bs e.members o ≡ p →
    Changed code bs keeps at e' kept' s (over (p ∷ s.core.now.operands) s.core)
pushes code bs keeps at e e' kept kept' s o p h is now same has got over_them stands_for =
    let got' = subst GotThese (sym stands_for) got in
    let to = above (plain_code code) bs at e (with_operand e o) kept (operand_of bs e.members o ∷ now_operands bs e) h.1 refl refl (flat_pushed (plain_code code) bs e o h.1) in
    subst (λ x. Changed code bs keeps at x kept' s (over (p ∷ s.core.now.operands) s.core)) (sym now)
    (subst (λ q. Changed code bs keeps at (with_operand e o) kept' s (over (q ∷ s.core.now.operands) s.core)) stands_for
    (changed code bs keeps at at e (with_operand e o) kept kept' s (λ k. over (operand_of bs e.members o ∷ k.now.operands) k) h is same to (sound_pushed (plain_code code) bs e o h.1 has got' over_them) h.2.standing))

-- ---- the top

pub now_counted : (fs : List Frame) (os : List core.Operand) → length (operands_in fs os) ≤ length os - lowest_in fs
now_counted [] os = omega arith
now_counted (f ∷ fs) os = omega (arith, length-reverse (drop f.operands os), length-drop f.operands os)

pub some_on_top : (bs : BasesState) (e : Here) → 0 < length (now_operands bs e) → lowest_of e < length e.operands
some_on_top bs e h = omega (arith, now_counted (reverse e.activations) (results bs e), length-map e.operands (operand_of bs e.members))

-- how many the body at work has
pub on_top_counted : (code : Code) (bs : BasesState) (at : ℕ) (e : Here) (kept : List (Here × Kept)) (s : Standing) → stands code bs at e kept ≡ s → length s.core.now.operands ≤ length e.operands - lowest_of e
on_top_counted code bs at e kept s is =
    omega (arith, ap (λ (x : Standing). length x.core.now.operands) is, now_counted (reverse e.activations) (results bs e), length-map e.operands (operand_of bs e.members))

pub has_below : (o : Operand) (os : List Operand) (n : ℕ) → HasMembers (o ∷ os) n → HasMembers os (members_below o n)
has_below operand.Om os n h = h
has_below (operand.Value v) os n h = h
has_below (operand.Based f) os n h = h
has_below (operand.Iterator i) os n h = h
has_below (operand.Collection what lowest count) os n h = h.1

pub below_within : (o : Operand) (os : List Operand) (n : ℕ) → HasMembers (o ∷ os) n → members_below o n ≤ n
below_within operand.Om os n h = omega arith
below_within (operand.Value v) os n h = omega arith
below_within (operand.Based f) os n h = omega arith
below_within (operand.Iterator i) os n h = omega arith
below_within (operand.Collection what lowest count) os n h = omega (arith, h.0)

-- the last one is the top
pub record OnTop (c : plain.Code) (bs : BasesState) (e : Here) (n : ℕ) (o : Operand) : Type 0 where
  pub apart : e.operands ≡ take n e.operands ++ o ∷ []
  pub short : length (take n e.operands) ≡ n
  pub members : HasMembers (o ∷ reverse (take n e.operands)) (length e.members)
  pub flat : take n (results bs e) ≡ take (lowest_of e) (results bs e) ++ reverse (drop 1 (now_operands bs e))
  pub now : now_operands bs e ≡ operand_of bs e.members o ∷ drop 1 (now_operands bs e)

top_of_flat : (fs : List Frame) (n : ℕ) (os : List core.Operand) (o : core.Operand) → 0 < length fs → lowest_in fs ≤ n → length (take n os) ≡ n → os ≡ take n os ++ o ∷ [] → operands_in fs os ≡ o ∷ drop 1 (operands_in fs os)
top_of_flat [] n os o some low short is = absurd (omega (arith, some))
top_of_flat (f ∷ fs) n os o some low short is =
    let tops : reverse (drop f.operands os) ≡ o ∷ reverse (drop f.operands (take n os)) =
    ap (λ l. reverse (drop f.operands l)) is
    ∙ ap reverse (drop-append-le f.operands (take n os) (o ∷ []) (omega (arith, low, short)))
    ∙ reverse-append (drop f.operands (take n os)) (o ∷ []) in
    tops ∙ ap (λ l. o ∷ drop 1 l) (sym tops)

flat_below : (fs : List Frame) (n k : ℕ) (os : List core.Operand) → 0 < length fs → lowest_in fs ≤ n → length os ≡ n + k → take n os ≡ take (lowest_in fs) os ++ reverse (drop k (operands_in fs os))
flat_below [] n k os some low long = absurd (omega (arith, some))
flat_below (f ∷ fs) n k os some low long =
    subst (λ m. take m os ≡ take f.operands os ++ reverse (drop k (reverse (drop f.operands os)))) (omega (arith, low)) (take_more_reversed f.operands (n - f.operands) k os (omega (arith, low, long)))

pub on_top : (c : plain.Code) (bs : BasesState) (e : Here) (n : ℕ) (o : Operand) → IsSound c bs e → length e.operands ≡ n + 1 → lowest_of e ≤ n → Some o ≡ slice_get e.operands n → OnTop c bs e n o
on_top c bs e n o h long low is =
    let fs = reverse e.activations in
    let f = operand_of bs e.members in
    let some : 0 < length fs = omega (arith, h.some, length-reverse e.activations) in
    let apart = last_apart e.operands o n long is in
    let short : length (take n e.operands) ≡ n = length-take-le n e.operands (omega (arith, long)) in
    let flat_apart : results bs e ≡ take n (results bs e) ++ f o ∷ [] =
    ap (map f) apart ∙ map-append f (take n e.operands) (o ∷ []) ∙ ap (λ l. l ++ f o ∷ []) (sym (take-map f n e.operands)) in
    let flat_short : length (take n (results bs e)) ≡ n = length-take-le n (results bs e) (omega (arith, long, length-map e.operands f)) in
    record {
      apart = apart;
      short = short;
      members = subst (λ os. HasMembers os (length e.members)) (ap reverse apart ∙ reverse-append (take n e.operands) (o ∷ [])) h.members;
      flat = flat_below fs n 1 (results bs e) some low (length-map e.operands f ∙ long);
      now = top_of_flat fs n (results bs e) (f o) some low flat_short flat_apart;
    }

-- ---- popping

pub cut_results : (bs : BasesState) (e : Here) (n m : ℕ) → HasMembers (reverse (take n e.operands)) m → m ≤ length e.members → results bs (cut_to e n m) ≡ take n (results bs e)
cut_results bs e n m has within =
    agree_flat bs (take n e.operands) m (take m e.members) e.members has (take-take m m e.members (omega arith))
    ∙ sym (take-map (operand_of bs e.members) n e.operands)

cut_sound : (c : plain.Code) (bs : BasesState) (e : Here) (n m : ℕ) → IsSound c bs e → lowest_of e ≤ n → length (take n e.operands) ≡ n → HasMembers (reverse (take n e.operands)) m → m ≤ length e.members → IsSound c bs (cut_to e n m)
cut_sound c bs e n m h low short has within = record {
  some = h.some;
  shaped = reshaped c (reverse e.activations) (length e.slots) (length e.operands) (length (take n e.operands)) (omega (arith, low, short)) h.shaped;
  members = subst (HasMembers (reverse (take n e.operands))) (sym (length-take-le m e.members within)) has;
  got = subst AllGot (sym (cut_results bs e n m has within)) (got_take n (results bs e) h.got);
  operands = over_take bs n e.operands h.operands;
}

-- the operands of the body at work, the top first
pub now_is : (code : Code) (bs : BasesState) (at : ℕ) (e : Here) (kept : List (Here × Kept)) (s : Standing) → stands code bs at e kept ≡ s → now_operands bs e ≡ s.core.now.operands
now_is code bs at e kept s is = ap (λ (x : Standing). x.core.now.operands) is

-- the store without the top operand
pub pops : (code : Code) (bs : BasesState) (keeps : ℕ) (at : ℕ) (e e' : Here) (kept kept' : List (Here × Kept)) (s : Standing) (n : ℕ) (o : Operand) →
    MayRun code × IsSound (plain_code code) bs e × AllSound (plain_code code) bs keeps e.slots kept → stands code bs at e kept ≡ s →
    length e.operands ≡ n + 1 → lowest_of e ≤ n → Some o ≡ slice_get e.operands n →
    e' ≡ cut_to e n (members_below o (length e.members)) → kept' ≡ kept →
    Changed code bs keeps at e' kept' s (over (drop 1 s.core.now.operands) s.core)
pops code bs keeps at e e' kept kept' s n o h is long low at_end now same =
    let t = on_top (plain_code code) bs e n o h.1 long low at_end in
    let m = members_below o (length e.members) in
    let has = has_below o (reverse (take n e.operands)) (length e.members) t.members in
    let within = below_within o (reverse (take n e.operands)) (length e.members) t.members in
    let to = above (plain_code code) bs at e (cut_to e n m) kept (drop 1 (now_operands bs e)) h.1 refl refl (cut_results bs e n m has within ∙ t.flat) in
    subst (λ x. Changed code bs keeps at x kept' s (over (drop 1 s.core.now.operands) s.core)) (sym now)
    (changed code bs keeps at at e (cut_to e n m) kept kept' s (λ k. over (drop 1 k.now.operands) k) h is same to (cut_sound (plain_code code) bs e n m h.1 low t.short has within) h.2.standing)

-- the store without so many operands
pub cuts : (code : Code) (bs : BasesState) (keeps : ℕ) (at : ℕ) (e e' : Here) (kept kept' : List (Here × Kept)) (s : Standing) (n k m : ℕ) →
    MayRun code × IsSound (plain_code code) bs e × AllSound (plain_code code) bs keeps e.slots kept → stands code bs at e kept ≡ s →
    length e.operands ≡ n + k → lowest_of e ≤ n → HasMembers (reverse (take n e.operands)) m → m ≤ length e.members →
    e' ≡ cut_to e n m → kept' ≡ kept → Changed code bs keeps at e' kept' s (over (drop k s.core.now.operands) s.core)
cuts code bs keeps at e e' kept kept' s n k m h is long low has within now same =
    let c = plain_code code in
    let some : 0 < length (reverse e.activations) = omega (arith, h.1.some, length-reverse e.activations) in
    let short : length (take n e.operands) ≡ n = length-take-le n e.operands (omega (arith, long)) in
    let flat = flat_below (reverse e.activations) n k (results bs e) some low (length-map e.operands (operand_of bs e.members) ∙ long) in
    let to = above c bs at e (cut_to e n m) kept (drop k (now_operands bs e)) h.1 refl refl (cut_results bs e n m has within ∙ flat) in
    subst (λ x. Changed code bs keeps at x kept' s (over (drop k s.core.now.operands) s.core)) (sym now)
    (changed code bs keeps at at e (cut_to e n m) kept kept' s (λ q. over (drop k q.now.operands) q) h is same to (cut_sound c bs e n m h.1 low short has within) h.2.standing)

-- ---- what stays

pub got_iterator : (pairs : Bool) (left : List Item) → GotThese (iterator_by pairs left)
got_iterator true left = tt
got_iterator false left = tt

-- an empty collection has its members behind all others
pub collection_alone : (what : Collection) (e : Here) (n : ℕ) → n ≡ length e.members → HasMembers (reverse e.operands) (length e.members) → HasMembers (operand.Collection what n 0 ∷ reverse e.operands) (length e.members)
collection_alone what e n is h = (omega (arith, is), subst (HasMembers (reverse e.operands)) (sym is) h)

-- ---- reading the top

pub some_below : (code : Code) (bs : BasesState) (at : ℕ) (e : Here) (kept : List (Here × Kept)) (s : Standing) → stands code bs at e kept ≡ s → 0 < length s.core.now.operands → lowest_of e < length e.operands
some_below code bs at e kept s is h = some_on_top bs e (subst (λ l. 0 < length l) (sym (now_is code bs at e kept s is)) h)

-- the operands, where this one is the last
pub top_is : (code : Code) (bs : BasesState) (at : ℕ) (e : Here) (kept : List (Here × Kept)) (s : Standing) (n : ℕ) (o : Operand) →
    IsSound (plain_code code) bs e → stands code bs at e kept ≡ s → lowest_of e < length e.operands → n ≡ length e.operands - 1 → Some o ≡ slice_get e.operands n →
    s.core.now.operands ≡ operand_of bs e.members o ∷ drop 1 s.core.now.operands
top_is code bs at e kept s n o h is some last there =
    subst (λ l. l ≡ operand_of bs e.members o ∷ drop 1 l) (now_is code bs at e kept s is) (on_top (plain_code code) bs e n o h (omega arith) (omega arith) there).now

pub shows_iterator : (pairs : Bool) (left : List Item) (xs : List core.Operand) → Shows (iterator_by pairs left ∷ xs) top.Iterator
shows_iterator true left xs = tt
shows_iterator false left xs = tt
