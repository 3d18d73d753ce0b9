-- Pieces of code with a shape and a height at each step.
use Rattle.std.proofs.Common.{◌≡◌, ◌<◌, ◌≤◌, ℕ, zero, suc, ◌+◌, Bool, true, false, List, [], ◌∷◌, ◌++◌, map, length, Option, Some, None, refl, ap, ◌∙◌, subst, arith}
use Rattle.std.specs.Prelude.{◌&&◌, slice_get}
use Rattle.setl_code.specs.Code.{Instr, Take, Jump, Body}
use Rattle.setl_code.specs.Piece.{Piece, empty, step, jump_out, jump_on, join, ending_at, going_on_at, past, Labels, Laid}
use Rattle.setl_code.specs.Shapes.{Kind, AResult, ACollection, AnIterator, APairIterator, Shape, serves, all_serve, outs, free_successors}
use Rattle.setl_code.specs.Sound.{Table, shape_at, says, is_fine, StaysBelow, height_at, AllLower}

-- ---- shapes that serve

same_kind : (k : Kind) → serves k k ≡ true
same_kind AResult = refl
same_kind ACollection = refl
same_kind AnIterator = refl
same_kind APairIterator = refl

pub both : (a b : Bool) → a ≡ true → b ≡ true → a && b ≡ true
both true b h g = g
both false b h g = h

pub parts : (a b : Bool) → a && b ≡ true → (a ≡ true) × (b ≡ true)
parts true b h = (refl, h)
parts false b h = cc

-- a shape serves as itself
pub itself : (s : Shape) → all_serve s s ≡ true
itself [] = refl
itself (k ∷ s) = both (serves k k) (all_serve s s) (same_kind k) (itself s)

serves_on : (k l m : Kind) → serves k l ≡ true → serves l m ≡ true → serves k m ≡ true
serves_on AResult AResult m h g = g
serves_on ACollection ACollection m h g = g
serves_on AnIterator AnIterator m h g = g
serves_on APairIterator APairIterator m h g = g
serves_on ACollection AResult AResult h g = refl
serves_on ACollection AResult ACollection h g = cc
serves_on ACollection AResult AnIterator h g = cc
serves_on ACollection AResult APairIterator h g = cc
serves_on AResult ACollection m h g = cc
serves_on AResult AnIterator m h g = cc
serves_on AResult APairIterator m h g = cc
serves_on ACollection AnIterator m h g = cc
serves_on ACollection APairIterator m h g = cc
serves_on AnIterator AResult m h g = cc
serves_on AnIterator ACollection m h g = cc
serves_on AnIterator APairIterator m h g = cc
serves_on APairIterator AResult m h g = cc
serves_on APairIterator ACollection m h g = cc
serves_on APairIterator AnIterator m h g = cc

pub serve_on : (s t u : Shape) → all_serve s t ≡ true → all_serve t u ≡ true → all_serve s u ≡ true
serve_on [] [] u h g = g
serve_on [] (l ∷ t) u h g = cc
serve_on (k ∷ s) [] u h g = cc
serve_on (k ∷ s) (l ∷ t) [] h g = cc
serve_on (k ∷ s) (l ∷ t) (m ∷ u) h g =
    let one = parts (serves k l) (all_serve s t) h in
    let two = parts (serves l m) (all_serve t u) g in
    both (serves k m) (all_serve s u) (serves_on k l m one.0 two.0) (serve_on s t u one.1 two.1)

-- ---- entries

-- The shape and the height at a step.
pub record Entry : Type 0 where
  pub shape : Shape
  pub height : ℕ

abbrev pub entry : Shape → ℕ → Entry
entry s h = record { shape = s; height = h }

abbrev pub shapes : List Entry → Table
shapes T = map (λ e. Some e.shape) T

abbrev pub heights : List Entry → List ℕ
heights T = map (λ e. e.height) T

pub shape_of : (T : List Entry) (at : ℕ) (e : Entry) → slice_get T at ≡ Some e → shape_at (shapes T) at ≡ Some e.shape
shape_of [] at e h = cc
shape_of (d ∷ T) zero e h = let same : d ≡ e = cc in ap (λ x. Some x.shape) same
shape_of (d ∷ T) (suc at) e h = shape_of T at e h

pub height_of : (T : List Entry) (at : ℕ) (e : Entry) → slice_get T at ≡ Some e → height_at (heights T) at ≡ e.height
height_of [] at e h = cc
height_of (d ∷ T) zero e h = let same : d ≡ e = cc in ap (λ x. x.height) same
height_of (d ∷ T) (suc at) e h = height_of T at e h

-- entries lie at a place and behind it
abbrev pub Lies : List Entry → ℕ → List Entry → Type 0
Lies T at [] = Unit {0}
Lies T at (e ∷ es) = (slice_get T at ≡ Some e) × Lies T (suc at) es

pub lies_first : (T : List Entry) (at : ℕ) (A B : List Entry) → Lies T at (A ++ B) → Lies T at A
lies_first T at [] B h = tt
lies_first T at (e ∷ A) B h = (h.0, lies_first T (suc at) A B h.1)

pub lies_next : (T : List Entry) (at to : ℕ) (A B : List Entry) → to ≡ at + length A → Lies T at (A ++ B) → Lies T to B
lies_next T at to [] B is h = let same : at ≡ to = omega arith in subst (λ m. Lies T m B) same h
lies_next T at to (e ∷ A) B is h = let there : to ≡ suc at + length A = omega arith in lies_next T (suc at) to A B there h.1

lies_there : (T U : List Entry) (at : ℕ) → ((k m : ℕ) → m ≡ at + k → slice_get U m ≡ slice_get T k) → Lies U at T
lies_there [] U at same = tt
lies_there (e ∷ T) U at same =
    let here : at ≡ at + 0 = omega arith in
    (same 0 at here, lies_there T U (suc at) (λ k m is. same (suc k) m (let go : m ≡ at + suc k = omega arith in go)))

-- a table lies in itself
pub lies_alone : (T : List Entry) → Lies T 0 T
lies_alone T = lies_there T T 0 (λ k m is. ap (slice_get T) (let go : m ≡ k = omega arith in go))

-- A place where an operand stack of this shape may come, not above this height.
pub record Leads (T : List Entry) (to : ℕ) (s : Shape) (h : ℕ) : Type 0 where
  pub entry : Entry
  pub is : slice_get T to ≡ Some entry
  pub fits : all_serve s entry.shape ≡ true
  pub low : entry.height ≤ h

pub raised : {T : List Entry} {to h : ℕ} {s : Shape} (k : ℕ) → h ≤ k → Leads T to s h → Leads T to s k
raised k le d = let low = d.low in record { entry = d.entry; is = d.is; fits = d.fits; low = omega arith }

-- a shape that serves leads there too
pub serving : {T : List Entry} {to h : ℕ} {t : Shape} (s : Shape) → all_serve s t ≡ true → Leads T to t h → Leads T to s h
serving {t = t} s le d = record { entry = d.entry; is = d.is; fits = serve_on s t d.entry.shape le d.fits; low = d.low }

pub moved : {T : List Entry} {to other h : ℕ} {s : Shape} → to ≡ other → Leads T to s h → Leads T other s h
moved {T = T} {h = h} {s = s} is d = subst (λ m. Leads T m s h) is d

pub said : {T : List Entry} {to h : ℕ} {s : Shape} → Leads T to s h → says (shape_at (shapes T) to) s ≡ true
said {T = T} {to = to} {s = s} d = ap (λ o. says o s) (shape_of T to d.entry d.is) ∙ d.fits

pub lower : {T : List Entry} {to h k : ℕ} {s : Shape} → Leads T to s h → h < k → height_at (heights T) to < k
lower {T = T} {to = to} d less = let low = d.low in let is = height_of T to d.entry d.is in omega arith

-- a place with this shape, if one is wanted
abbrev pub Wants : List Entry → Option Shape → ℕ → ℕ → Type 0
Wants T None to h = Unit {0}
Wants T (Some s) to h = Leads T to s h

pub raised_want : (T : List Entry) (to h : ℕ) (o : Option Shape) (k : ℕ) → h ≤ k → Wants T o to h → Wants T o to k
raised_want T to h None k le d = tt
raised_want T to h (Some s) k le d = raised k le d

-- where the innermost loop ends and where it goes on, and a place that code names
abbrev pub Around : Option Shape → Option Shape → Option Shape → List Entry → Labels → ℕ → ℕ → Type 0
Around x y z T l a h = Wants T x l.exit h × Wants T y l.again h × Wants T z a h

pub raised_all : (T : List Entry) (l : Labels) (a h : ℕ) (x y z : Option Shape) (k : ℕ) → h ≤ k → Around x y z T l a h → Around x y z T l a k
raised_all T l a h x y z k le d = (raised_want T l.exit h x k le d.0, raised_want T l.again h y k le d.1, raised_want T a h z k le d.2)

-- ---- steps

abbrev pub IsNoTake : Instr → Type 0
IsNoTake (Take x) = ⊥
IsNoTake i = Unit {0}

-- something holds of each step of a piece at its place
abbrev pub Each : (ℕ → ℕ → Instr → Type 0) → Labels → ℕ → Piece → Type 0
Each P l at empty = Unit {0}
Each P l at (step line i) = P at line i
Each P l at (jump_out line) = P at line (Jump l.exit)
Each P l at (jump_on line) = P at line (Jump l.again)
Each P l at (join p q) = Each P l at p × Each P l (past at p) q
Each P l at (ending_at to p) = Each P (record l { exit = to }) at p
Each P l at (going_on_at to p) = Each P (record l { again = to }) at p

-- What a step of sound code needs of a table.
pub record Fine (bs : List Body) (n : ℕ) (T : List Entry) (at line : ℕ) (i : Instr) : Type 0 where
  pub entry : Entry
  pub is : slice_get T at ≡ Some entry
  pub keeps : is_fine (shapes T) (outs bs i (suc at) entry.shape) ≡ true
  pub falls : AllLower (heights T) entry.height (free_successors i (suc at))
  pub below : StaysBelow n i
  pub no_take : IsNoTake i

-- Code that names a place, with entries for its steps above any height: where they lie in a table that leads on behind
-- it, each of its steps is fine, and it may be entered with a shape.
pub record Checked (bs : List Body) (n : ℕ) (x y z : Option Shape) (f : ℕ → Laid) (s : Shape) (o : Option Shape) : Type 0 where
  pub size : ℕ
  pub entries : ℕ → List Entry
  pub counts : (h : ℕ) → length (entries h) ≡ size
  pub places : (a at : ℕ) → past at (f a at) ≡ at + size
  pub good : (T : List Entry) (l : Labels) (a at h : ℕ) → Lies T at (entries h) → Around x y z T l a h → Wants T o (past at (f a at)) h → Leads T at s (h + size) × Each (Fine bs n T) l at (f a at)

-- the first step of code
pub first_at : {T : List Entry} {at h k : ℕ} (s : Shape) → slice_get T at ≡ Some (entry s h) → h ≤ k → Leads T at s k
first_at {h = h} s is le = record { entry = entry s h; is = is; fits = itself s; low = le }
