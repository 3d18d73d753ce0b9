-- How far a call of the reader went.
use Rattle.std.proofs.Common.{◌≡◌, ℕ, List, [], ◌∷◌, ◌++◌, drop, refl, sym, ap, subst, ◌∙◌, Some, None, Ok, Err, Option, Result, Bool, true, false, inl, inr, append_assoc, append-nil, ◌+◌, ◌-◌, ◌≤◌, take, arith, length-take}
use Rattle.std.proofs.lemmas.List.{drop-take, drop-drop, drop_all}
use Rattle.std.specs.Io.KnownBytes.{Consumes, Keeps, IsAtEnd}
use Rattle.std.proofs.KnownBytes.{Consumes-nil, Consumes-trans, Consumes-kept}
use Rattle.setl_io.specs.Source.{AreBytes, TellsBytes}
use Rattle.setl_value.specs.declared.Value.{Value}
use Rattle.setl_value.specs.code.DatumOf.{part}
use Rattle.setl_text.specs.Reading.{Reading, Denotes, Token, Between, Open, finish, resume, read_denotation}
use Rattle.setl_text.specs.code.Scans.{token_of, reading_of, Scans, Finishes}
use Rattle.setl_text.specs.code.Reads.{ahead, StaysHonest, TakesOff, Answered, Answers, AnswersTold, IsAll, ScansKept, Fills}
use Rattle.setl_text.specs.declared.scan.Piece.{Piece}
use Rattle.setl_text.specs.declared.read.Scanned.TheVariants.{Onward, Found}
use Rattle.setl_text.specs.declared.Got.{Got}
use Rattle.setl_text.specs.declared.Got.TheVariants as got
use Rattle.setl_text.specs.declared.ReadFault.{ReadFault}
use Rattle.setl_text.specs.declared.ReadFault.TheVariants.{Form, Wide, Deep, Source, NoMemory}

-- ---- bytes

bytes_then : (xs ys : List ℕ) → AreBytes xs → AreBytes ys → AreBytes (xs ++ ys)
bytes_then [] ys a b = b
bytes_then (x ∷ xs) ys a b = (a.0, bytes_then xs ys a.1 b)

-- ---- how far a call went

-- the input gave some bytes, and the bytes kept followed by these are read as what the state makes of those kept now
pub record Went (kept : List ℕ) (left : Option (List ℕ)) (kept' : List ℕ) (left' : Option (List ℕ)) (t : Token) (os : List Open) : Type 0 where
  pub gave : List ℕ
  pub bytes : AreBytes gave
  pub taken : Consumes left left' gave
  pub tells : TellsBytes left → TellsBytes left'
  pub same : (more : List ℕ) → read_denotation (kept ++ (gave ++ more)) ≡ resume (kept' ++ more) t os

pub went_start : (kept : List ℕ) (left : Option (List ℕ)) → Went kept left kept left Between []
went_start kept left = record { gave = []; bytes = tt; taken = Consumes-nil left; tells = λ h. h; same = λ more. refl }

gives_all : (a b : Option (List ℕ)) (gave : List ℕ) → Consumes a b gave → IsAtEnd b → IsAll a gave
gives_all None b gave taken end = tt
gives_all (Some x) None gave taken end = absurd taken
gives_all (Some x) (Some y) gave taken end = taken ∙ ap (λ l. gave ++ l) end ∙ append-nil gave

module _ (kept : List ℕ) (left : Option (List ℕ)) where
  -- whether an end was told is as before
  pub went_still : (kept' : List ℕ) (e e' : Bool) (left' : Option (List ℕ)) (t : Token) (os : List Open) → e' ≡ e → Went kept left kept' (ahead e left') t os → Went kept left kept' (ahead e' left') t os
  went_still kept' e e' left' t os same w = subst (λ x. Went kept left kept' (ahead x left') t os) (sym same) w

  pub went_onward : (kept' kept'' : List ℕ) (left' : Option (List ℕ)) (t : Token) (os new : List Open) (p : Piece) → Went kept left kept' left' t os → ScansKept kept' kept'' t os new (Ok (Onward p)) → Went kept left kept'' left' (token_of p) new
  went_onward kept' kept'' left' t os new p w h = record {
    gave = w.gave;
    bytes = w.bytes;
    taken = w.taken;
    tells = w.tells;
    same = λ more. w.same more ∙ h.0 more ∙ ap (λ l. resume (l ++ more) (token_of p) new) (sym h.1.0);
  }

  pub went_filled : (kept' kept'' : List ℕ) (left' left'' : Option (List ℕ)) (t : Token) (os : List Open) → kept' ≡ [] → Went kept left kept' left' t os → Fills left' left'' kept'' (Ok true) → Went kept left kept'' left'' t os
  went_filled kept' kept'' left' left'' t os none w more_taken = record {
    gave = w.gave ++ kept'';
    bytes = bytes_then w.gave kept'' w.bytes more_taken.1;
    taken = Consumes-trans left left' left'' w.gave kept'' w.taken more_taken.0;
    tells = λ before. more_taken.2;
    same = λ more. ap (λ l. read_denotation (kept ++ l)) (append_assoc w.gave kept'' more) ∙ w.same (kept'' ++ more) ∙ ap (λ l. resume (l ++ (kept'' ++ more)) t os) none;
  }

  answered_got : (g : Got) (v : Option Value) (rest : List ℕ) (r : Reading) → reading_of g rest ≡ Denotes (part v) rest → r ≡ Denotes (part v) rest → Answered (Ok g) rest r
  answered_got (got.Value d) v rest r is e = e ∙ sym is
  answered_got got.Om v rest r is e = e ∙ sym is
  answered_got got.End v rest r is e = absurd (cc)

  pub went_found : (kept' kept'' : List ℕ) (left' : Option (List ℕ)) (t : Token) (os new : List Open) (v : Option Value) (n : ℕ) (g : Got) → Went kept left kept' left' t os → ScansKept kept' kept'' t os new (Ok (Found v n)) → ((rest : List ℕ) → reading_of g rest ≡ Denotes (part v) rest) → Answers kept left kept'' left' (Ok g)
  went_found kept' kept'' left' t os new v n g w h is = inl (record {
    gave = w.gave;
    bytes = w.bytes;
    taken = w.taken;
    tells = w.tells;
    answered = λ more. answered_got g v (kept'' ++ more) _ (is (kept'' ++ more)) (w.same more ∙ h more);
  })

  pub went_wrong : (kept' kept'' : List ℕ) (left' : Option (List ℕ)) (t : Token) (os new : List Open) (f : ReadFault) → Went kept left kept' left' t os → ScansKept kept' kept'' t os new (Err f) → Answers kept left kept'' left' (Err f)
  went_wrong kept' kept'' left' t os new Form w h = inl (record { gave = w.gave; bytes = w.bytes; taken = w.taken; tells = w.tells; answered = λ more. w.same more ∙ h more })
  went_wrong kept' kept'' left' t os new Wide w h = inl (record { gave = w.gave; bytes = w.bytes; taken = w.taken; tells = w.tells; answered = λ more. w.same more ∙ h more })
  went_wrong kept' kept'' left' t os new Deep w h = inl (record { gave = w.gave; bytes = w.bytes; taken = w.taken; tells = w.tells; answered = λ more. w.same more ∙ h more })
  went_wrong kept' kept'' left' t os new Source w h = absurd h
  went_wrong kept' kept'' left' t os new NoMemory w h = inl (record { gave = w.gave; bytes = w.bytes; taken = w.taken; tells = w.tells; answered = λ more. tt })

  pub went_unfilled : (kept' kept'' : List ℕ) (left' left'' : Option (List ℕ)) (t : Token) (os : List Open) (f : ReadFault) → Went kept left kept' left' t os → Fills left' left'' kept'' (Err f) → Answers kept left kept'' left'' (Err f)
  went_unfilled kept' kept'' left' left'' t os Form w h = absurd h
  went_unfilled kept' kept'' left' left'' t os Wide w h = absurd h
  went_unfilled kept' kept'' left' left'' t os Deep w h = absurd h
  went_unfilled kept' kept'' left' left'' t os NoMemory w h = absurd h
  went_unfilled kept' kept'' left' left'' t os Source w h = inl (record { gave = w.gave; bytes = w.bytes; taken = Consumes-kept left left' left'' w.gave w.taken h.0; tells = λ before. h.1; answered = λ more. tt })

  pub went_on : (kept' : List ℕ) (left' : Option (List ℕ)) (t : Token) (os : List Open) → Went kept left kept' left' t os → Answers kept left kept' left' (Err NoMemory)
  went_on kept' left' t os w = inl (record { gave = w.gave; bytes = w.bytes; taken = w.taken; tells = w.tells; answered = λ more. tt })

  answered_end : (result : Result Got ReadFault) (r s : Reading) → s ≡ r → Finishes r result → Answered result [] s
  answered_end (Ok (got.Value d)) r s e h = e ∙ h
  answered_end (Ok got.Om) r s e h = e ∙ h
  answered_end (Ok got.End) r s e h = (e ∙ h, refl)
  answered_end (Err Form) r s e h = e ∙ h
  answered_end (Err Wide) r s e h = absurd h
  answered_end (Err Deep) r s e h = absurd h
  answered_end (Err Source) r s e h = tt
  answered_end (Err NoMemory) r s e h = tt

  pub went_finished : (kept' kept'' : List ℕ) (left' left'' : Option (List ℕ)) (t : Token) (os : List Open) (result : Result Got ReadFault) → kept' ≡ [] → Went kept left kept' left' t os → Fills left' left'' kept'' (Ok false) → Finishes (finish t os) result → Answers kept left kept'' left'' result
  went_finished kept' kept'' left' left'' t os result none w h e = inr (record {
    gave = w.gave;
    bytes = w.bytes;
    all = gives_all left left' w.gave w.taken h.0;
    none = h.1.0;
    empty = h.1.1;
    answered = answered_end result (finish t os) _ (ap (λ l. read_denotation (kept ++ l)) (sym (append-nil w.gave)) ∙ w.same [] ∙ ap (λ l. resume (l ++ []) t os) none) e;
  })

-- ---- inputs that tell their bytes

pub told : (kept : List ℕ) (left : Option (List ℕ)) (kept' : List ℕ) (left' : Option (List ℕ)) (result : Result Got ReadFault) → Answers kept left kept' left' result → AnswersTold kept left kept' left' result
told kept None kept' left' result h = tt
told kept (Some l) kept' None result (inl g) = absurd g.taken
told kept (Some l) kept' (Some m) result (inl g) = subst (λ x. Answered result (kept' ++ m) (read_denotation (kept ++ x))) (sym g.taken) (g.answered m)
told kept (Some l) kept' left' result (inr g) =
    subst (λ x. AnswersTold kept (Some l) kept' x result) (sym g.none)
    (subst (λ x. Answered result x (read_denotation (kept ++ l))) (sym (ap (λ x. x ++ []) g.empty))
    (subst (λ x. Answered result [] (read_denotation (kept ++ x))) (sym g.all) g.answered))

-- ---- what an input gives

pub took_nothing : (left : Option (List ℕ)) → TakesOff left left
took_nothing left = ([], Consumes-nil left)

pub took_then : (a b c : Option (List ℕ)) → TakesOff a b → TakesOff b c → TakesOff a c
took_then a b c x y = (x.0 ++ y.0, Consumes-trans a b c x.0 y.0 x.1 y.1)

pub took_kept : (a b : Option (List ℕ)) → Keeps a b → TakesOff a b
took_kept a b h = ([], Consumes-kept a a b [] (Consumes-nil a) h)

-- an end that is told at the end
pub honest_end : (ended ended' : Bool) (a b : Option (List ℕ)) → IsAtEnd a → Keeps a b → StaysHonest ended a ended' b
honest_end ended ended' None b end h = tt
honest_end ended ended' (Some x) None end h = absurd h
honest_end ended ended' (Some x) (Some y) end h = λ before now. h ∙ end

pub honest_then : (e e' e'' : Bool) (a b c : Option (List ℕ)) → TakesOff a b → StaysHonest e a e' b → StaysHonest e' b e'' c → StaysHonest e a e'' c
honest_then e e' e'' None b c t x y = tt
honest_then e e' e'' (Some l) None c t x y = absurd t.1
honest_then e e' e'' (Some l) (Some m) c t x y = λ before now. y (x before) now

-- no end was told in between
pub honest_still : (e e' : Bool) (a : Option (List ℕ)) → e' ≡ e → StaysHonest e a e' a
honest_still e e' None h = tt
honest_still e e' (Some x) h = λ before now. before (sym h ∙ now)

-- ---- the bytes of the buffer that are kept

pub window : (at end : ℕ) (xs : List ℕ) → at ≤ end → take (end - at) (drop at xs) ≡ drop at (take end xs)
window at end xs h = sym (drop-take at (end - at) xs) ∙ ap (λ k. drop at (take k xs)) (omega arith)

pub window_rest : (at end n : ℕ) (xs kept : List ℕ) → drop at (take end xs) ≡ kept → drop (at + n) (take end xs) ≡ drop n kept
window_rest at end n xs kept is = sym (drop-drop n at (take end xs)) ∙ ap (drop n) is

pub window_none : (end : ℕ) (xs : List ℕ) → drop end (take end xs) ≡ []
window_none end xs = drop_all end (take end xs) (omega (arith, length-take end xs))

pub kept_found : (bytes kept kept' : List ℕ) (t : Token) (os new : List Open) (v : Option Value) (n : ℕ) → bytes ≡ kept → kept' ≡ drop n kept → Scans bytes t os new (Ok (Found v n)) → ScansKept kept kept' t os new (Ok (Found v n))
kept_found bytes kept kept' t os new v n is rest h =
    λ more. ap (λ l. resume (l ++ more) t os) (sym is) ∙ h.0 more ∙ ap (λ l. Denotes (part v) (l ++ more)) (ap (drop n) is ∙ sym rest)

pub kept_onward : (bytes kept kept' : List ℕ) (t : Token) (os new : List Open) (p : Piece) → bytes ≡ kept → kept' ≡ [] → Scans bytes t os new (Ok (Onward p)) → ScansKept kept kept' t os new (Ok (Onward p))
kept_onward bytes kept kept' t os new p is none h = (λ more. ap (λ l. resume (l ++ more) t os) (sym is) ∙ h.0 more, (none, h.1))

pub kept_wrong : (bytes kept kept' : List ℕ) (t : Token) (os new : List Open) (f : ReadFault) → bytes ≡ kept → Scans bytes t os new (Err f) → ScansKept kept kept' t os new (Err f)
kept_wrong bytes kept kept' t os new Form is h = λ more. ap (λ l. resume (l ++ more) t os) (sym is) ∙ h more
kept_wrong bytes kept kept' t os new Wide is h = λ more. ap (λ l. resume (l ++ more) t os) (sym is) ∙ h more
kept_wrong bytes kept kept' t os new Deep is h = λ more. ap (λ l. resume (l ++ more) t os) (sym is) ∙ h more
kept_wrong bytes kept kept' t os new Source is h = absurd h
kept_wrong bytes kept kept' t os new NoMemory is h = tt
