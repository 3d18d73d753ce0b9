-- What commands tell over the screens of a target is what they tell over those of the meaning.
use Rattle.std.proofs.Common.{◌≡◌, ◌∙◌, inl, inr, ℕ, zero, suc, List, [], ◌∷◌, ◌++◌, Some, ap, subst, sym, refl}
use Rattle.std.proofs.lemmas.List.{append_assoc, append-nil}
use Rattle.std.specs.Prelude.{slice_get, take}
use Rattle.setl_debug.specs.Sessions.{Does, Follows}
use Rattle.setl_debug_machine.specs.Growing.{HasScreen}
use Rattle.setl_debug_machine.specs.Screens.{PlainRun, IsScreen}
use Rattle.setl_debug_script.specs.declared.command.Command.{Command}
use Rattle.setl_debug_script.specs.declared.command.Command.TheVariants.{Input, Go, On, Back, Until, Show, Out, Profile, Nothing}
use Rattle.setl_debug_target.specs.Screens.{Screen}

module _ (r : PlainRun) where
  abbrev shows : ℕ → Screen → Type 0
  shows k s = HasScreen r k s

  pub does_so : (c : Command) (k : ℕ) (told : List ℕ) (next : ℕ) → Does shows c k told next → Does (IsScreen r) c k told next
  does_so (Input text) k told next d = d
  does_so (Go turns) k told next d = d
  does_so (On turns) k told next d = d
  does_so (Back turns) k told next d = d
  does_so (Until line) k told next (inl d) = inl (
    d.0,
    record {
      now = d.1.now;
      then = d.1.then;
      shown_now = d.1.shown_now.0;
      shown_then = d.1.shown_then.0;
      later = d.1.later;
      near = d.1.near;
      more = d.1.more;
      first = λ j s above below is. d.1.first j s above below (is, d.1.shown_now.1);
    },
  )
  does_so (Until line) k told next (inr d) = inr (
    d.0,
    d.1,
    record {
      now = d.2.now;
      shown_now = d.2.shown_now.0;
      none = λ j s above below is. d.2.none j s above below (is, d.2.shown_now.1);
    },
  )
  does_so Show k told next d = (d.0, (d.1.0, d.1.1.0, d.1.2))
  does_so Out k told next d = (d.0, (d.1.0, d.1.1.0, d.1.2))
  does_so Profile k told next d = (d.0, (d.1.0, d.1.1.0, d.1.2))
  does_so Nothing k told next d = d

  pub follows_so : (cs : List Command) (k : ℕ) (told : List ℕ) (next : ℕ) → Follows shows cs k told next → Follows (IsScreen r) cs k told next
  follows_so [] k told next f = f
  follows_so (c ∷ cs) k told next f = (f.0, f.1, f.2, does_so c k f.0 f.2 f.3, follows_so cs f.2 f.1 next f.4, f.5)

-- what one command more tells
pub follows_more : (shows : ℕ → Screen → Type 0) (cs : List Command) (n : ℕ) (c : Command) (k : ℕ) (told : List ℕ) (middle : ℕ) (more : List ℕ) (next : ℕ) → slice_get cs n ≡ Some c → Follows shows (take n cs) k told middle → Does shows c middle more next → Follows shows (take (suc n) cs) k (told ++ more) next
follows_more shows [] n c k told middle more next there f d = absurd (cc)
follows_more shows (x ∷ xs) zero c k told middle more next there f d =
    let same : c ≡ x = cc in
    let here : Does shows x k more next = subst (λ y. Does shows y k more next) same (subst (λ j. Does shows c j more next) f.1 d) in
    (more, [], next, here, (refl, refl), ap (λ l. l ++ more) f.0 ∙ sym (append-nil more))
follows_more shows (x ∷ xs) (suc n) c k told middle more next there f d =
    (f.0, f.1 ++ more, f.2, f.3, follows_more shows xs n c f.2 f.1 middle more next there f.4 d, ap (λ l. l ++ more) f.5 ∙ append_assoc f.0 f.1 more)
