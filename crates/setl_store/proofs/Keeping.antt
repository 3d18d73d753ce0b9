-- What `ok` keeps, what `fail` brings back, and what `succeed` forgets.
use Rattle.std.proofs.Common.{◌≡◌, ℕ, suc, ◌+◌, ◌<◌, ◌≤◌, ◌^◌, List, [], ◌∷◌, ◌++◌, length, drop, reverse, set, refl, sym, ap, ◌∙◌, subst, arith, Bool, true, false, Some}
use Rattle.std.specs.Prelude.{Option, None, option_and_then, nat_lt}
use Rattle.std.specs.Option.{option_map, option_map_or}
use Rattle.std.specs.FinMap as finmap
use Rattle.setl_base.specs.Base.{empty}
use Rattle.setl_value.specs.Datum.{bool}
use Rattle.setl_value.specs.declared.Value.TheVariants as value
use Rattle.setl_code.specs.declared.code.Code.{Code}
use Rattle.setl_code.specs.Code as plain
use Rattle.setl_code.specs.CodeCore as core
use Rattle.setl_code.specs.CodeCore.{Result as Holds, Copy, CodeCore}
use Rattle.setl_code.specs.MayRun.{MayRun}
use Rattle.setl_code.specs.Plain.{plain_code}
use Rattle.setl_rep_bases.specs.declared.BaseId.{BaseId}
use Rattle.setl_rep_bases.specs.declared.tables.Instance.{Instance}
use Rattle.setl_rep_bases.specs.declared.marks.Mark.{Mark}
use Rattle.setl_rep_bases.specs.Bases.{BasesState, base_at, instance_at}
use Rattle.setl_rep_bases.specs.Keeping.{AreKept}
use Rattle.setl_rep_bases.specs.Marks.{marks_of, as_cut, cut_all, back_all, AreWithin, HaveFewCuts}
use Rattle.setl_rep_bases.specs.Cutting.{NothingIsCut, GrownBasesAreCutAlike, CountedCutsLeaveTheSame, CountedCutsAreRead, CutBlocksWereThere, MarksAreRead}
use Rattle.setl_rep_updates.specs.InForm.{FormsOfMainStay}
use Rattle.setl_store_operands.specs.Laws.{OperandsStay}
use Rattle.setl_store_kept.specs.Kept.{KeptSound}
use Rattle.setl_store_kept.specs.Keeping.{ReadsBlocks, kept_same, one_more_kept, sound_back}
use Rattle.setl_store_slots.specs.declared.cells.Held.{Held}
use Rattle.setl_store.specs.declared.cells.Kept.{Kept}
use Rattle.setl_store_operands.specs.declared.cells.Operand.{Operand}
use Rattle.setl_store_operands.specs.declared.cells.Operand.TheVariants as operand
use Rattle.setl_store.specs.Standing.{Standing, over, kept as with_kept, restored, forgotten}
use Rattle.setl_store.specs.Flat.{Here, AllGot, body_in, cells, own_in, operands_in, callers, marks_in, copy_of, copies_of, core_of, bases_of, stands, IsSound, WasSound, AllSound, answering, now_operands}
use Rattle.setl_store.specs.Gained as gained
use Rattle.setl_store.proofs.Gaining.{bases_kept, bases_cut as bases_back, bases_forgotten}
use Rattle.setl_store.proofs.OperandLists.{Changed, pushes}
use Rattle.setl_store.proofs.StandingSlots.{slots_stay}

-- with a truth value pushed
answered : (code : Code) (bs : BasesState) (keeps : ℕ) (at : ℕ) (e : Here) (kept : List (Here × Kept)) (b : Bool) → MayRun code × IsSound (plain_code code) bs e × AllSound (plain_code code) bs keeps e.slots kept →
    Changed code bs keeps at (answering e b) kept (stands code bs at e kept) (over (Holds (Some (bool b)) ∷ now_operands bs e) (core_of (plain_code code) bs at e kept))
answered code bs keeps at e kept b h = pushes code bs keeps at e (answering e b) kept kept (stands code bs at e kept) (operand.Value (value.Bool b)) (Holds (Some (bool b))) h refl refl refl h.1.members tt tt refl

core_answered : (code : Code) (bs : BasesState) (keeps : ℕ) (at : ℕ) (e : Here) (kept : List (Here × Kept)) (b : Bool) → MayRun code × IsSound (plain_code code) bs e × AllSound (plain_code code) bs keeps e.slots kept →
    core_of (plain_code code) bs at (answering e b) kept ≡ over (Holds (Some (bool b)) ∷ now_operands bs e) (core_of (plain_code code) bs at e kept)
core_answered code bs keeps at e kept b h = ap (λ (x : Standing). x.core) (answered code bs keeps at e kept b h).stands

last_set : {A : Type 0} (xs : List A) (x y : A) → set (xs ++ x ∷ []) (length xs) y ≡ xs ++ y ∷ []
last_set [] x y = refl
last_set (z ∷ xs) x y = ap (λ l. z ∷ l) (last_set xs x y)

-- `true` in the place of `false`
pub replaced : (e e1 e2 : Here) (n : ℕ) (o : Operand) → e1 ≡ answering e false → n ≡ length e.operands → o ≡ operand.Value (value.Bool true) → e2 ≡ record e1 { operands = set e1.operands n o } → e2 ≡ answering e true
replaced e e1 e2 n o now last is to =
    to
    ∙ ap (λ (x : Here). record x { operands = set x.operands n o }) now
    ∙ (λ i. record e { operands = set (e.operands ++ operand.Value (value.Bool false) ∷ []) (last i) (is i) })
    ∙ ap (λ os. record e { operands = os }) (last_set e.operands (operand.Value (value.Bool false)) (operand.Value (value.Bool true)))

-- the copy that a core leaves
abbrev copied : CodeCore → Copy
copied k = record { globals = k.globals; now = record k.now { operands = drop 1 k.now.operands }; callers = k.callers }

-- what was kept, with these slots and operands
abbrev copy_with : plain.Code → List core.Held → List core.Operand → Here × Kept → Copy
copy_with c hs os k = record {
  globals = cells c.vars hs;
  now = record { body = body_in (reverse k.0.activations); at = k.1.at; own = own_in c (reverse k.0.activations) hs; operands = drop 1 (operands_in (reverse k.0.activations) os) };
  callers = callers c (reverse k.0.activations) hs os;
}

-- what is there is kept, and goes on
pub all_kept : NothingIsCut → MarksAreRead → (code : Code) (bs : BasesState) (keeps : ℕ) (at next : ℕ) (e e' : Here) (kept kept' : List (Here × Kept)) (k : Kept) (s : Standing) →
    MayRun code × IsSound (plain_code code) bs e × AllSound (plain_code code) bs keeps e.slots kept → stands code bs at e kept ≡ s →
    next ≡ at + 1 → k.at ≡ at + 1 → k.marks ≡ marks_of bs → keeps + 1 < 2 ^ 63 → e' ≡ answering e true → kept' ≡ (answering e false, k) ∷ kept →
    Changed code bs (keeps + 1) next e' kept' (record s { bases = gained.with_kept s.bases }) (with_kept s.core)
all_kept none read code bs keeps at next e e' kept kept' k s h is there place marked few is_now added =
    let c = plain_code code in
    let n : ℕ = suc at in
    let up : next ≡ n = omega (arith, there) in
    let behind : k.at ≡ n = omega (arith, place) in
    let asked = answered code bs keeps at e kept false h in
    let top = ap (λ (q : CodeCore). q.now.operands) (core_answered code bs keeps at e kept false h) in
    let was : WasSound c bs (answering e false) = record { sound = asked.holds.1; answered = top ∙ ap (λ l. Holds (Some (bool false)) ∷ drop 1 l) (sym top); standing = h.2.standing } in
    let one = one_more_kept marks_in (copy_of c) (WasSound c) none bs (answering e false, k) kept marked was h.2.older in
    let copy = ap (λ i. copied (core_of c bs i (answering e false) kept)) behind ∙ ap copied (core_answered code bs keeps n e kept false h) in
    let copies = one.same ∙ ap (λ x. x ∷ copies_of c bs kept) copy in
    let on = core_answered code bs keeps n e kept true h in
    let all = (answering e false, k) ∷ kept in
    let to : core_of c bs n (answering e true) all ≡ with_kept (core_of c bs at e kept) = λ i. record (on i) { kept = copies i } in
    let told = bases_kept read bs (answering e false) k kept marked in
    let now : Standing = record s { bases = gained.with_kept s.bases } in
    let done : Changed code bs (keeps + 1) n (answering e true) all now (with_kept s.core) =
    record {
      stands = (λ i. record { code = code; core = to i; bases = told i }) ∙ ap (λ (x : Standing). record x { core = with_kept x.core; bases = gained.with_kept x.bases }) is;
      holds = (
        h.0,
        (answered code bs keeps at e kept true h).holds.1,
        record { standing = h.2.standing; older = one.sound_too; cuts = λ i. (omega (arith, h.2.cuts i)); few = few },
      );
    } in
    subst (λ m. Changed code bs (keeps + 1) m e' kept' now (with_kept s.core)) (sym up)
    (subst (λ x. Changed code bs (keeps + 1) n x kept' now (with_kept s.core)) (sym is_now)
    (subst (λ ks. Changed code bs (keeps + 1) n (answering e true) ks now (with_kept s.core)) (sym added) done))

-- what a kept one shows is told by the blocks of its bases
pub reads_blocks : FormsOfMainStay → OperandsStay → (c : plain.Code) → ReadsBlocks marks_in (copy_of c) (WasSound c)
reads_blocks stay too c bs cs k more was =
    let e = k.0 in
    let slots = slots_stay stay bs cs e.slots more was.standing in
    let operands = too bs cs e.members e.operands more was.sound.operands in
    let sound : IsSound c cs e =
    record {
      some = was.sound.some;
      shaped = was.sound.shaped;
      members = was.sound.members;
      got = subst AllGot (sym operands.0) was.sound.got;
      operands = operands.1;
    } in
    let answered = subst (λ os. operands_in (reverse e.activations) os ≡ Holds (Some (bool false)) ∷ drop 1 (operands_in (reverse e.activations) os)) (sym operands.0) was.answered in
    (λ i. copy_with c (slots.same i) (operands.0 i) k, record { sound = sound; answered = answered; standing = slots.stand })

-- the store over what was kept last, and over the bases that were cut to its marks
pub record BroughtBack (code : Code) (cs : BasesState) (keeps : ℕ) (at : ℕ) (e : Here) (kept : List (Here × Kept)) (s : Standing) : Type 0 where
  pub restored_to : restored s.core.kept s.core ≡ Some (stands code cs at e kept).core
  pub bases_cut : bases_of cs kept ≡ gained.cut_to_kept s.bases
  pub holds : MayRun code × IsSound (plain_code code) cs e × AllSound (plain_code code) cs keeps e.slots kept

cut_once : (w : Option Mark) (o : Option Instance) →
    (option_map_or (λ (x : Instance). x.base) (option_and_then (λ x. option_map (as_cut x) w) o) empty).cuts ≤ (option_map_or (λ (x : Instance). x.base) o empty).cuts + 1
cut_once w None = omega arith
cut_once None (Some x) = omega arith
cut_once (Some m) (Some x) = omega arith

-- each instance is cut at most once
cuts_counted : CountedCutsAreRead → (bs : BasesState) (k : Kept) (i : BaseId) → (base_at (back_all bs k.marks) i).cuts ≤ (base_at bs i).cuts + 1
cuts_counted read bs k i =
    subst (λ o. (option_map_or (λ (x : Instance). x.base) o empty).cuts ≤ (base_at bs i).cuts + 1) (sym (read bs k.marks i))
    (cut_once (finmap.get k.marks i) (instance_at bs i))

pub brought_back : FormsOfMainStay → OperandsStay → GrownBasesAreCutAlike → CountedCutsAreRead → CountedCutsLeaveTheSame → (code : Code) (bs cs : BasesState) (keeps : ℕ) (at : ℕ) (e e' : Here) (kept kept' : List (Here × Kept)) (k : Kept) (s : Standing) →
    MayRun code × IsSound (plain_code code) bs e × AllSound (plain_code code) bs keeps e.slots kept → stands code bs at e kept ≡ s → kept ≡ (e', k) ∷ kept' →
    cs ≡ back_all bs k.marks → BroughtBack code cs keeps k.at e' kept' s
brought_back stay too alike read same code bs cs keeps at e e' kept kept' k s h is last back =
    let c = plain_code code in
    let more : AreKept (cut_all bs k.marks) cs = subst (AreKept (cut_all bs k.marks)) (sym back) (same bs k.marks).0 in
    let cut : (i : BaseId) → (base_at cs i).cuts ≤ (base_at bs i).cuts + 1 = subst (λ ds. (i : BaseId) → (base_at ds i).cuts ≤ (base_at bs i).cuts + 1) (sym back) (cuts_counted read bs k) in
    let b = sound_back marks_in (copy_of c) (WasSound c) alike (reads_blocks stay too c) bs cs (e', k) kept' more (subst (KeptSound marks_in (WasSound c) bs) last h.2.older) in
    let copies = ap (copies_of c bs) last ∙ b.same in
    let to = core_of c cs k.at e' kept' in
    record {
      restored_to =
          subst (λ (t : Standing). restored t.core.kept t.core ≡ Some to) is
          (ap (λ l. restored l (core_of c bs at e kept)) copies ∙ (λ i. Some (record to { now = record to.now { operands = sym b.now.answered i } })));
      bases_cut =
          ap (λ ds. bases_of ds kept') back ∙ bases_back read bs e' k kept' ∙ ap (λ l. gained.cut_to_kept (bases_of bs l)) (sym last)
          ∙ ap (λ (t : Standing). gained.cut_to_kept t.bases) is;
      holds = (h.0, b.now.sound, record { standing = b.now.standing; older = b.older; cuts = λ i. (omega (arith, cut i, h.2.cuts i, ap length last)); few = h.2.few });
    }

-- where something is kept, no instance was cut too often
pub cut_seldom : (c : plain.Code) (bs : BasesState) (keeps : ℕ) (hs : List Held) (kept kept' : List (Here × Kept)) (k : Here × Kept) → AllSound c bs keeps hs kept → kept ≡ k ∷ kept' → HaveFewCuts bs
cut_seldom c bs keeps hs kept kept' k h last i = omega (arith, h.cuts i, h.few, ap length last)

pub marks_within : (c : plain.Code) (bs : BasesState) (keeps : ℕ) (hs : List Held) (kept kept' : List (Here × Kept)) (k : Here × Kept) → AllSound c bs keeps hs kept → kept ≡ k ∷ kept' → AreWithin k.1.marks bs
marks_within c bs keeps hs kept kept' k h last = (subst (KeptSound marks_in (WasSound c) bs) last h.older).0

-- how many are kept
copies_counted : (c : plain.Code) (bs : BasesState) (kept : List (Here × Kept)) → length (copies_of c bs kept) ≡ length kept
copies_counted c bs [] = refl
copies_counted c bs (k ∷ ks) = ap suc (copies_counted c (cut_all bs k.1.marks) ks)

pub kept_counted : (code : Code) (bs : BasesState) (at : ℕ) (e : Here) (kept : List (Here × Kept)) (s : Standing) → stands code bs at e kept ≡ s → length s.core.kept ≡ length kept
kept_counted code bs at e kept s is = sym (ap (λ (x : Standing). length x.core.kept) is) ∙ copies_counted (plain_code code) bs kept

-- the store over the older ones of what was kept, where all else stays
pub record ForgotLast (code : Code) (bs : BasesState) (keeps : ℕ) (at : ℕ) (e : Here) (kept : List (Here × Kept)) (s : Standing) : Type 0 where
  pub forgotten_to : forgotten s.core.kept s.core ≡ Some (stands code bs at e kept).core
  pub bases_left : bases_of bs kept ≡ gained.without_kept s.bases
  pub holds : MayRun code × IsSound (plain_code code) bs e × AllSound (plain_code code) bs keeps e.slots kept

forgot_first : FormsOfMainStay → OperandsStay → GrownBasesAreCutAlike → CutBlocksWereThere → (code : Code) (bs : BasesState) (keeps at : ℕ) (e : Here) (k : Here × Kept) (ks : List (Here × Kept)) (s : Standing) →
    MayRun code × IsSound (plain_code code) bs e × AllSound (plain_code code) bs keeps e.slots (k ∷ ks) → stands code bs at e (k ∷ ks) ≡ s → ForgotLast code bs keeps (suc at) e ks s
forgot_first stay too alike were code bs keeps at e k ks s h is =
    let c = plain_code code in
    let rest = kept_same marks_in (copy_of c) (WasSound c) alike (reads_blocks stay too c) (cut_all bs k.1.marks) bs ks (were bs k.1.marks) h.2.older.2 in
    let from = core_of c bs at e (k ∷ ks) in
    record {
      forgotten_to =
          subst (λ (t : Standing). forgotten t.core.kept t.core ≡ Some (core_of c bs (suc at) e ks)) is
          (λ i. Some (record from { now = record from.now { at = suc at }; kept = sym rest.same i }));
      bases_left = bases_forgotten bs k ks ∙ ap (λ (t : Standing). gained.without_kept t.bases) is;
      holds = (h.0, h.1, record { standing = h.2.standing; older = rest.still; cuts = λ i. (omega (arith, h.2.cuts i)); few = h.2.few });
    }

-- what was kept last is forgotten, the older ones are read over all that is there, and the next step is in hand
pub forgot_last : FormsOfMainStay → OperandsStay → GrownBasesAreCutAlike → CutBlocksWereThere → (code : Code) (bs : BasesState) (keeps at next : ℕ) (e e' : Here) (kept kept' : List (Here × Kept)) (s : Standing) →
    MayRun code × IsSound (plain_code code) bs e × AllSound (plain_code code) bs keeps e.slots kept → stands code bs at e kept ≡ s →
    next ≡ at + 1 → e' ≡ e → kept' ≡ drop 1 kept → nat_lt 0 (length kept) ≡ true → ForgotLast code bs keeps next e' kept' s
forgot_last stay too alike were code bs keeps at next e e' [] kept' s h is up same less some = absurd (cc)
forgot_last stay too alike were code bs keeps at next e e' (k ∷ ks) kept' s h is up same less some =
    let n : next ≡ suc at = omega (arith, up) in
    subst (λ m. ForgotLast code bs keeps m e' kept' s) (sym n)
    (subst (λ x. ForgotLast code bs keeps (suc at) x kept' s) (sym same)
    (subst (λ l. ForgotLast code bs keeps (suc at) e l s) (sym less) (forgot_first stay too alike were code bs keeps at e k ks s h is)))
