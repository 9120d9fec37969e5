-- The claim that every channel is in balance keeps its truth.
use Rattle.std.proofs.Common.{◌≡◌, ◌∙◌, ℕ, ◌+◌, List, [], ◌∷◌, length, map, Option, Some, None, refl, sym, ap, subst}
use Rattle.std.specs.List.{AllByRecursion}
use Rattle.std.proofs.lemmas.List.{length-map}
use Rattle.multiset_laws.specs.Balance.{HasEqualProducts}
use Rattle.multiset_laws.proofs.Balances.{all_collapsed, all_multiplied, alpha_count, gamma_count}
use Rattle.poly_forms.specs.declared.check_kind.CheckKind.{CheckKind}
use Rattle.poly_forms.specs.declared.check_kind.CheckKind.TheVariants.{Products}
use Rattle.poly_forms.specs.declared.draw_kind.DrawKind.{DrawKind}
use Rattle.poly_forms.specs.declared.draw_kind.DrawKind.TheVariants.{Alpha, Gamma}
use Rattle.sumcheck.specs.declared.entry.Entry.{Entry}
use Rattle.sumcheck.specs.declared.entry.Entry.TheVariants.{Message, Draw}
use Rattle.sumcheck.specs.declared.refused.Refused.{Refused}
use Rattle.sumcheck.specs.Machine.{Filling, Lawful, AtMessage, AtDraw, RoundIsClaimed}
use Rattle.sumcheck.specs.Rounds.{checked}
use Rattle.sumcheck.proofs.Entries.{same_message, same_draw}
use Rattle.sumcheck.proofs.Lawful.{checks_equal, equal_checks}
use Rattle.table_text.specs.declared.decl.Side.TheVariants.{Push, Pull}
use Rattle.channel_products.specs.declared.channels.Channels.{Channels}
use Rattle.channel_products.specs.Balancing.{Balancing, waiting, stated, collapsing, multiplying, told, balancing, balancing_entries, first_unequal, or_then, side_value}
use Rattle.channel_products.specs.Channels.{HasBits, balances, balances_from, product_of}
use Rattle.channel_products.proofs.SideLaws.{side_is}

-- ---- the draws
at_stated : (F : Filling) (ch : Channels) → AtDraw balancing (stated ch) ch.alphas (Draw Gamma ch.gammas ∷ Message Products (length ch.flushes) ∷ []) F
at_stated F ch = record {
  next = λ r. refl;
  fits = λ r e f. f;
  counted = λ f wrong. alpha_count ch.alphas (balances F ch) f.wide f.alphas wrong;
  stays = λ r f h. all_collapsed r (balances F ch) h;
}

at_collapsing : (F : Filling) (ch : Channels) (a : ℕ) → AtDraw balancing (collapsing ch a) ch.gammas (Message Products (length ch.flushes) ∷ []) F
at_collapsing F ch a = record {
  next = λ r. refl;
  fits = λ r e f. f;
  counted = λ f wrong. gamma_count ch.gammas a (balances F ch) f.gammas wrong;
  stays = λ r f h. all_multiplied a r (balances F ch) h;
}

-- ---- the message
none_first : (x y : Option Refused) → or_then x y ≡ None → (x ≡ None) × (y ≡ None)
none_first None y h = (refl, h)
none_first (Some e) y h = absurd cc

abbrev true_values : Filling → ℕ → ℕ → Channels → List ℕ
true_values F a g ch = map (product_of F a g) ch.flushes

all_equal : (F : Filling) (a g : ℕ) (ch : Channels) → AllByRecursion (HasBits F) ch.flushes → (c : ℕ) (ws : List ℕ) → first_unequal a g ch (true_values F a g ch) c (length ws) ≡ None
    → AllByRecursion (HasEqualProducts a g) (balances_from F ch c ws)
all_equal F a g ch bits c [] h = tt
all_equal F a g ch bits c (w ∷ ws) h =
    let v = true_values F a g ch in
    let here = none_first (checked Products (side_value Push c a g ch v) (side_value Pull c a g ch v)) (first_unequal a g ch v (c + 1) (length ws)) h in (
      sym (side_is F Push c a g ch bits) ∙ checks_equal Products (side_value Push c a g ch v) (side_value Pull c a g ch v) here.0 ∙ side_is F Pull c a g ch bits,
      all_equal F a g ch bits (c + 1) ws here.1,
    )

none_unequal : (F : Filling) (a g : ℕ) (ch : Channels) → AllByRecursion (HasBits F) ch.flushes → (c : ℕ) (ws : List ℕ) → AllByRecursion (HasEqualProducts a g) (balances_from F ch c ws)
    → first_unequal a g ch (true_values F a g ch) c (length ws) ≡ None
none_unequal F a g ch bits c [] h = refl
none_unequal F a g ch bits c (w ∷ ws) h =
    let v = true_values F a g ch in
    ap (λ o. or_then o (first_unequal a g ch v (c + 1) (length ws)))
    (equal_checks Products (side_value Push c a g ch v) (side_value Pull c a g ch v) (side_is F Push c a g ch bits ∙ h.0 ∙ sym (side_is F Pull c a g ch bits)))
    ∙ none_unequal F a g ch bits (c + 1) ws h.1

at_multiplying : (F : Filling) (ch : Channels) (a g : ℕ) → AtMessage balancing (multiplying ch a g) (length ch.flushes) [] F
at_multiplying F ch a g = record {
  next = λ v l. refl;
  fits = λ v l f. l;
  sound = λ v l f p h. all_equal F a g ch f.bits 0 ch.widths (subst (λ (v : List ℕ). first_unequal a g ch v 0 (length ch.widths) ≡ None) h p);
  size = length-map ch.flushes (product_of F a g);
  passes = λ f h. none_unequal F a g ch f.bits 0 ch.widths h;
  stays = λ f h. refl;
}

-- ---- at each entry
at_message : (F : Filling) (s : Balancing) (c : CheckKind) (n : ℕ) (es : List Entry) → balancing_entries s ≡ Message c n ∷ es → AtMessage balancing s n es F
at_message F (waiting ch) c n es e = absurd (cc)
at_message F (stated ch) c n es e = absurd (cc)
at_message F (collapsing ch a) c n es e = absurd (cc)
at_message F (multiplying ch a g) c n es e = same_message balancing _ F Products c _ n _ es e (at_multiplying F ch a g)
at_message F (told ch a g v) c n es e = absurd (cc)

at_draw : (F : Filling) (s : Balancing) (k : DrawKind) (n : ℕ) (es : List Entry) → balancing_entries s ≡ Draw k n ∷ es → AtDraw balancing s n es F
at_draw F (waiting ch) k n es e = absurd (cc)
at_draw F (stated ch) k n es e = same_draw balancing _ F Alpha k _ n _ es e (at_stated F ch)
at_draw F (collapsing ch a) k n es e = same_draw balancing _ F Gamma k _ n _ es e (at_collapsing F ch a)
at_draw F (multiplying ch a g) k n es e = absurd (cc)
at_draw F (told ch a g v) k n es e = absurd (cc)

round_claimed : (s : Balancing) → RoundIsClaimed (balancing_entries s) None
round_claimed (waiting ch) = refl
round_claimed (stated ch) = refl
round_claimed (collapsing ch a) = refl
round_claimed (multiplying ch a g) = refl
round_claimed (told ch a g v) = refl

pub balance_lawful : Lawful balancing
balance_lawful = record { message = at_message; draw = at_draw; round = round_claimed }
