-- Laws of bases over time.
use Rattle.std.proofs.Common.{◌≡◌, ℕ, suc, ◌<◌, ◌≤◌, Bool, true, false, List, [], ◌∷◌, take, slice_get, Some, None, is_some, if◌then◌else◌, ⊎_elim, refl, sym, ◌∙◌, ap, arith, length, length-take, length-append, map, take_all, take-take, ◌++◌, option_and_then, zero}
use Rattle.std.proofs.Math.Seq.{take-append_seam}
use Rattle.std.proofs.lemmas.Option.{slice_get_within, slice_get_past}
use Rattle.setl_value.specs.Datum.{Datum}
use Rattle.setl_base.specs.Base.{Member, BaseState, find, member_at, value_in, value_of, with_member, entered, cut_back, undone}
use Rattle.setl_base.specs.Later.{Change, enter, back, undo, changed, later, NumbersRise, HandlesEnd, EnteringKeeps, UndoGivesBack, CutsKeepTheFront}
use Rattle.setl_base.proofs.Found.{lives, living_value, value_by_place}
use Rattle.setl_base.proofs.Places.{get_put, get_taken, get_before, get_in_front}

-- the members from place n on came after the cut that ended the generation g
record Rises (g n : ℕ) (b : BaseState) : Type 0 where
  cuts : g < b.cuts
  members : (i : ℕ) (m : Member) → n ≤ i → slice_get b.members i ≡ Some m → g < m.generation

starts : (b : BaseState) (n : ℕ) → Rises b.cuts n (cut_back b n)
starts b n = record {
  cuts = omega arith;
  members = λ i m far p. absurd (omega (arith, slice_get_within (take n b.members) i m p, length-take n b.members));
}

keeps : (g n : ℕ) (b : BaseState) (x : Change) → Rises g n b → Rises g n (changed b x)
keeps g n b (enter d) h = record { cuts = h.cuts; members = by (is_some (find b d)) }
  where
    member : (i : ℕ) (m : Member) → n ≤ i → slice_get (with_member b d) i ≡ Some m → g < m.generation
    member i m far p =
        ⊎_elim (λ q. h.members i m far q) (λ q. let new : m.generation ≡ b.cuts = ap (λ (k : Member). k.generation) q.1 in omega (arith, new, h.cuts)) (get_put b.members (record { value = d; generation = b.cuts }) i m p)

    by : (t : Bool) (i : ℕ) (m : Member) → n ≤ i → slice_get (if t then b.members else with_member b d) i ≡ Some m → g < m.generation
    by true = h.members
    by false = member
keeps g n b (back k) h = record { cuts = omega (arith, h.cuts); members = λ i m far p. h.members i m far (get_taken k b.members i m p) }
keeps g n b (undo k) h = record { cuts = h.cuts; members = λ i m far p. h.members i m far (get_taken k b.members i m p) }

keeps_all : (g n : ℕ) (b : BaseState) (changes : List Change) → Rises g n b → Rises g n (later b changes)
keeps_all g n b [] h = h
keeps_all g n b (x ∷ xs) h = keeps_all g n (changed b x) xs (keeps g n b x h)

pub numbers_rise : NumbersRise
numbers_rise b n changes e f base living far alive number =
    let c = later (cut_back b n) changes in
    let h = keeps_all b.cuts n (cut_back b n) changes (starts b n) in
    let v = living_value (value_of c f) alive in
    let at = lives c f v.0 v.1 in
    let old = base.generations e living in
    let new = h.members at.place at.member (omega (arith, at.number)) at.stands in
    omega (arith, old, new, at.generation)

pub handles_end : HandlesEnd
handles_end b n changes e base living far alive = omega (arith, numbers_rise b n changes e e base living far alive refl)

-- ---- what one change leaves

with_one : (t : Bool) (xs : List Member) (x m : Member) (i : ℕ) → slice_get xs i ≡ Some m → slice_get (if t then xs else xs ++ x ∷ []) i ≡ Some m
with_one true xs x m i p = p
with_one false xs x m i p = get_before xs x i m p

pub entering_keeps : EnteringKeeps
entering_keeps b d e x p =
    let at = lives b e x p in
    let m = with_one (is_some (find b d)) b.members (record { value = d; generation = b.cuts }) at.member at.place at.stands in
    value_by_place (entered b d) e at.place at.member at.number m at.generation ∙ ap (λ v. Some v) at.value

front : (t : Bool) (xs : List Member) (x : Member) → (length xs ≤ length (if t then xs else xs ++ x ∷ [])) × (take (length xs) (if t then xs else xs ++ x ∷ []) ≡ xs)
front true xs x = (omega arith, take_all (length xs) xs (omega arith))
front false xs x = (omega (arith, length-append xs (x ∷ [])), take-append_seam xs (x ∷ []))

-- a front of a front
front_of : (m n : ℕ) (xs zs : List Member) → m ≤ n → take m (take n zs) ≡ xs → take m zs ≡ xs
front_of m n xs zs h p = sym (take-take m n zs h) ∙ p

record Grows (b c : BaseState) : Type 0 where
  longer : length b.members ≤ length c.members
  front : take (length b.members) c.members ≡ b.members
  cuts : c.cuts ≡ b.cuts

grows : (b : BaseState) (ds : List Datum) → Grows b (later b (map enter ds))
grows b [] = record { longer = omega arith; front = take_all (length b.members) b.members (omega arith); cuts = refl }
grows b (d ∷ ds) =
    let h = grows (entered b d) ds in
    let f = front (is_some (find b d)) b.members (record { value = d; generation = b.cuts }) in
    record {
      longer = omega (arith, f.0, h.longer);
      front = front_of (length b.members) (length (entered b d).members) b.members (later b (map enter (d ∷ ds))).members f.0 (ap (take (length b.members)) h.front ∙ f.1);
      cuts = h.cuts;
    }

pub undo_gives_back : UndoGivesBack
undo_gives_back b ds = let h = grows b ds in (h.longer, λ i. record { members = h.front i; cuts = h.cuts i })

cut_keeps : (b : BaseState) (n k g : ℕ) → k ≤ n → option_and_then (value_in g) (member_at (undone b n) k) ≡ option_and_then (value_in g) (member_at b k)
cut_keeps b n zero g h = refl
cut_keeps b n (suc i) g h = ap (option_and_then (value_in g)) (get_in_front n b.members i (omega arith))

cut_ends : (b : BaseState) (n k g : ℕ) → n < k → option_and_then (value_in g) (member_at (undone b n) k) ≡ None
cut_ends b n zero g h = refl
cut_ends b n (suc i) g h = ap (option_and_then (value_in g)) (slice_get_past (take n b.members) i (omega (arith, length-take n b.members)))

pub cuts_keep_the_front : CutsKeepTheFront
cuts_keep_the_front b n e =
    (λ h. let p = cut_keeps b n e.block e.generation h in (p, p), λ h. let p = cut_ends b n e.block e.generation h in (p, p))
