-- Where the messages under way to the daemon lead.
use Rattle.std.proofs.Common.{◌≡◌, ◌⊎◌, ℕ, ◌+◌, ◌≤◌, ◌<◌, List, [], ◌∷◌, ◌++◌, length, map, Some, None, inl, inr, refl, sym, ap, ◌∙◌, arith}
use Rattle.std.specs.Option.{option_map}
use Rattle.std.proofs.lemmas.Bool.{eq-eqb}
use Rattle.delta.specs.Cells.{Cells, base_length}
use Rattle.bridge_world.specs.Plain as P
use Rattle.bridge_world.specs.Counted.{Message, Opens, Edits, Closes, Sent, plain_sent}
use Rattle.bridge_world.specs.Tie.{Stand, Place, edited, after_message, after, MessageFits, AllFit, reached}

-- one more message at the end

pub reached-push : (sent : List Sent) (m : Sent) (a : Place) → reached (sent ++ m ∷ []) a ≡ after m (reached sent a)
reached-push [] m a = refl
reached-push (x ∷ sent) m a = reached-push sent m (after x a)

pub all_fit-push : (sent : List Sent) (m : Sent) (a : Place) → AllFit sent a → MessageFits m.message m.session (reached sent a) → AllFit (sent ++ m ∷ []) a
all_fit-push [] m a h k = (k, tt)
all_fit-push (x ∷ sent) m a h k = (h.0, all_fit-push sent m (after x a) h.1 k)

-- sessions do not fall

pub one_rises : (k : Message) (s : ℕ) (a : Place) → MessageFits k s a → a.session ≤ (after_message k s a).session
one_rises (Opens content) s a h = omega (arith, h.1)
one_rises (Edits seen p) s a h = omega arith
one_rises Closes s a h = omega arith

pub session_rises : (sent : List Sent) (a : Place) → AllFit sent a → a.session ≤ (reached sent a).session
session_rises [] a h = omega arith
session_rises (m ∷ sent) a h = omega (arith, one_rises m.message m.session a h.0, session_rises sent (after m a) h.1)

-- from no link to a link there is an open, and so a new session

without_link : (k : Message) (s : ℕ) (a : Place) → a.stand ≡ None → MessageFits k s a → (a.session < (after_message k s a).session) ⊎ ((after_message k s a).stand ≡ None)
without_link (Opens content) s a none h = inl h.1
without_link (Edits seen p) s a none h = inr (ap (option_map (edited p)) none)
without_link Closes s a none h = inr refl

pub none_leads : (sent : List Sent) (a : Place) (b : Stand) → a.stand ≡ None
    → AllFit sent a → (reached sent a).stand ≡ Some b → a.session < (reached sent a).session
none_leads [] a b none h is = let never : None ≡ Some b = sym none ∙ is in cc
none_leads (m ∷ sent) a b none h is = elim (without_link m.message m.session a none h.0) [
  | inl later ↦ omega (arith, later, session_rises sent (after m a) h.1)
  | inr still ↦ omega (arith, one_rises m.message m.session a h.0, none_leads sent (after m a) b still h.1 is)
]

-- within a session, from a link to a link, there are edits alone

pub record LeadsWithin (sent : List Sent) (low : ℕ) (x b : Stand) : Type 0 where
  pub fits : AllFit sent (record { session = low; stand = Some x })
  pub meets : (reached sent (record { session = low; stand = Some x })).stand ≡ Some b
  pub present : (reached sent (record { session = low; stand = Some x })).session ≡ low

pub record BeginsWithEdit (m : Sent) (sent : List Sent) (low : ℕ) (x b : Stand) : Type 0 where
  pub seen : ℕ
  pub delta : Cells
  pub is : m ≡ record { session = low; message = Edits seen delta }
  pub fits : base_length delta ≡ length x.text
  pub rest : LeadsWithin sent low (edited delta x) b

pub begins_with_edit : (m : Sent) (sent : List Sent) (low : ℕ) (x b : Stand) → LeadsWithin (m ∷ sent) low x b → BeginsWithEdit m sent low x b
begins_with_edit m sent low x b h = by_message m.message m.session h where
  by_message : (k : Message) (s : ℕ) → LeadsWithin (record { session = s; message = k } ∷ sent) low x b → BeginsWithEdit (record { session = s; message = k }) sent low x b
  by_message (Opens content) s h = let never : Some x ≡ None = h.fits.0.0 in cc
  by_message (Edits seen p) s h =
      record {
        seen = seen;
        delta = p;
        is = ap (λ n. record { session = n; message = Edits seen p }) h.fits.0.0;
        fits = h.fits.0.1.1;
        rest = record { fits = h.fits.1; meets = h.meets; present = h.present };
      }
  by_message Closes s h =
      absurd (omega (arith, h.present, none_leads sent (record { session = low; stand = None }) b refl h.fits.1 h.meets))

-- each of them counts
pub own_grows : (sent : List Sent) (low : ℕ) (x b : Stand) → LeadsWithin sent low x b → b.own ≡ x.own + length sent
own_grows [] low x b h =
    let met : Some x ≡ Some b = h.meets in
    let same : x ≡ b = cc in
    omega (arith, ap (λ (y : Stand). y.own) same)
own_grows (m ∷ sent) low x b h =
    let first = begins_with_edit m sent low x b h in
    omega (arith, own_grows sent low (edited first.delta x) b first.rest)

-- and the first of them is the first of the session's edits
pub edits_of-first : (m : Sent) (sent : List Sent) (low seen : ℕ) (p : Cells) → m ≡ record { session = low; message = Edits seen p }
    → P.edits_of low (map plain_sent (m ∷ sent)) ≡ p ∷ P.edits_of low (map plain_sent sent)
edits_of-first m sent low seen p is =
    ap (λ n. P.edits_of low (plain_sent n ∷ map plain_sent sent)) is
    ∙ ap (λ present. P.edit_of (P.Edits p) present (P.edits_of low (map plain_sent sent))) (eq-eqb low low refl)

-- without the link, as after a refusal, the messages lead where they led, or to no link within the session

pub record IsGivingUp (sent : List Sent) (low : ℕ) (x : Stand) : Type 0 where
  pub none : reached sent (record { session = low; stand = None }) ≡ record { session = low; stand = None }
  pub present : (reached sent (record { session = low; stand = Some x })).session ≡ low

pub record LeadsWithout (sent : List Sent) (low : ℕ) (x : Stand) : Type 0 where
  pub fits : AllFit sent (record { session = low; stand = None })
  pub leads : (reached sent (record { session = low; stand = None }) ≡ reached sent (record { session = low; stand = Some x })) ⊎ IsGivingUp sent low x

pub leads_without : (sent : List Sent) (low : ℕ) (x : Stand) → AllFit sent (record { session = low; stand = Some x }) → LeadsWithout sent low x
leads_without [] low x h =
    record { fits = tt; leads = inr (record { none = refl; present = refl }) }
leads_without (m ∷ sent) low x h =
    by_message m.message m.session (λ y g. leads_without sent low y g) h.0 h.1 where
      by_message : (k : Message) (s : ℕ) → ((y : Stand) → AllFit sent (record { session = low; stand = Some y }) → LeadsWithout sent low y)
          → MessageFits k s (record { session = low; stand = Some x }) → AllFit sent (after_message k s (record { session = low; stand = Some x }))
          → LeadsWithout (record { session = s; message = k } ∷ sent) low x
      by_message (Opens content) s led f h = let never : Some x ≡ None = f.0 in cc
      by_message (Edits seen p) s led f h =
          let rest = led (edited p x) h in
          record {
            fits = ((f.0, tt), rest.fits);
            leads = elim rest.leads [
              | inl same ↦ inl same
              | inr up ↦ inr (record { none = up.none; present = up.present })
            ];
          }
      by_message Closes s led f h = record { fits = (f, h); leads = inl refl }
