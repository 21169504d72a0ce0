-- From a token to what the reader sees.
use Rattle.std.proofs.Common.{◌≡◌, Option, Some, None, MatchOption, [], Bool, true, false, cond, ◌||◌, List, ◌∷◌, map, length, Bor, sym, refl, ap, ◌∙◌, subst, arith, rules}
use Rattle.std.specs.List.{IsFirstAndRest}
use Rattle.tokens.specs.declared.Token.{Token}
use Rattle.tokens.specs.Lexeme.{Lexeme, lexeme}
use Rattle.std.proofs.lemmas.Bool.{or_left, or_right}
use Rattle.tokens.specs.declared.Mark.{Mark}
use Rattle.tokens.specs.contracts.Mark.{the_type}
use denote.Enum.Bare.{sameb, same_true, same_false}
use Rattle.tokens.specs.declared.Mark.TheVariants as sign
use Rattle.syntax.specs.declared.Quantifier.TheVariants as quant
use Rattle.grammar.specs.Steps.{Test, same as same_number, is, is_truth, is_quantifier, first, Misses}
use Rattle.reading.specs.declared.source.Reader.{Reader}
use Rattle.reading.specs.Sources.{left, place_or, place_at, Takes, Leaves, Moves, Finds, Found, TakesTold, IsTruth, IsQuantifier}
use Rattle.std.proofs.lemmas.Bool.Decides.{nat_tests}
use Rattle.grammar.proofs.Tokens.{same_mark}
use Rattle.reading.proofs.Held.{same, then_moves}

-- the first token is there and passes
pub first_taken : (r : Reader) (k : Token) (ks : Bor (List Token)) (t : Test) → IsFirstAndRest r.rest.now k ks.now → t (lexeme r.text.now k).symbol ≡ true → Takes r (record r { rest = ks }) t
first_taken r k ks t h e = record {
  token = lexeme r.text.now k;
  here = ap (map (lexeme r.text.now)) h.0;
  passes = e;
  moves = record { later = record { text = refl; entries = same _ }; few = refl; room = refl; taken = omega arith };
}

pub first_found : {A : Type 0} (r : Reader) (k : Token) (ks : Bor (List Token)) (t : Test) (P : Lexeme → A → Type 0) (a : A) → IsFirstAndRest r.rest.now k ks.now → t (lexeme r.text.now k).symbol ≡ true → P (lexeme r.text.now k) a → Finds r (record r { rest = ks }) t P a
unfolding first_taken
first_found r k ks t P a h e p = record { takes = first_taken r k ks t h e; tells = p }

-- what was told of the next token says whether it passes
pub told_found : {A : Type 0} {tells : Token → Option A → Type 0} {r r' : Reader} {o : Option A} (t : Test) (P : Lexeme → A → Type 0) → TakesTold tells r r' o → ((k : Token) (w : Option A) → tells k w → MatchOption w (t (lexeme r.text.now k).symbol ≡ false) (λ a. (t (lexeme r.text.now k).symbol ≡ true) × P (lexeme r.text.now k) a)) → Found r r' t P o
told_found {A} {tells} {r} {r'} {o} t P h f = go o h.ends
  where
    missed : (ks : List Token) → ((k : Token) (us : List Token) → ks ≡ k ∷ us → tells k None) → Misses t (first (map (lexeme r.text.now) ks))
    missed [] g = tt
    missed (k ∷ us) g = f k None (g k us refl)

    go : (w : Option A) → MatchOption w ((r' ≡ r) × ((k : Token) (ks : List Token) → r.rest.now ≡ k ∷ ks → tells k None)) (λ a. (k : Token) × (r.rest.now ≡ k ∷ r'.rest.now) × (r' ≡ record r { rest = r'.rest }) × tells k (Some a)) → Found r r' t P w
    go None e = record {
      misses = missed r.rest.now e.1;
      here = ap left (sym e.0);
      moves = subst (Moves 0 r) (sym e.0) (record { later = record { text = refl; entries = same _ }; few = refl; room = refl; taken = omega arith });
    }
    go (Some a) e = let p = f e.0 (Some a) e.3 in record {
      takes = record {
        token = lexeme r.text.now e.0;
        here = rw e.2 (ap (map (lexeme r.text.now)) e.1);
        passes = p.0;
        moves = subst (Moves 1 r) (sym e.2) (record { later = record { text = refl; entries = same _ }; few = refl; room = refl; taken = omega (arith, ap length e.1) });
      };
      tells = p.1;
    }

-- `==` of two marks is the test of their numbers
pub same_flag : (b : Bool) (m n : Mark) → b ≡ sameb the_type n m → b ≡ same_number m n
same_flag true m n e = rw (same_true the_type (search rules) n m (sym e)) (search (rules, nat_tests))
same_flag false m n e = go (same_number m n) refl
  where
    go : (c : Bool) → same_number m n ≡ c → false ≡ same_number m n
    go true h = absurd (same_false the_type n m (sym e) (sym (same_mark m n h)))
    go false h = sym h

abbrev one_of : Mark → Mark → Test
one_of m k x = is m x || is k x

-- one of two marks: `true` and `false`, `forall` and `exists`
module _ {r r' : Reader} (m k : Mark) where
  pub first_of : Takes r r' (is m) → Takes r r' (one_of m k)
  first_of h = record { token = h.token; here = h.here; passes = or_left _ (is k h.token.symbol) h.passes; moves = h.moves }

  pub second_of : {r'' : Reader} → Leaves r r'' (is m) → Takes r'' r' (is k) → Takes r r' (one_of m k)
  second_of l h = record { token = h.token; here = l.here ∙ h.here; passes = or_right (is m h.token.symbol) _ h.passes; moves = then_moves 0 1 l.moves h.moves }

  pub not_first : {r'' : Reader} (l : Leaves r r'' (is m)) (h : Takes r'' r' (is k)) → is m h.token.symbol ≡ false
  not_first l h = subst (λ us. Misses (is m) (first us)) (l.here ∙ h.here) l.misses

pub truth_found : {r r' : Reader} → Takes r r' (is sign.True) → Finds r r' is_truth IsTruth true
unfolding first_of
truth_found h = record { takes = first_of sign.True sign.False h; tells = sym h.passes }

pub falsity_found : {r r' r'' : Reader} → Leaves r r'' (is sign.True) → Takes r'' r' (is sign.False) → Finds r r' is_truth IsTruth false
unfolding second_of
falsity_found l h = record { takes = second_of sign.True sign.False l h; tells = sym (not_first sign.True sign.False l h) }

pub forall_found : {r r' : Reader} → Takes r r' (is sign.Forall) → Finds r r' is_quantifier IsQuantifier quant.Forall
unfolding first_of
forall_found h = record { takes = first_of sign.Forall sign.Exists h; tells = ap (λ b. cond b quant.Forall quant.Exists) (sym h.passes) }

pub exists_found : {r r' r'' : Reader} → Leaves r r'' (is sign.Forall) → Takes r'' r' (is sign.Exists) → Finds r r' is_quantifier IsQuantifier quant.Exists
unfolding second_of
exists_found l h = record { takes = second_of sign.Forall sign.Exists l h; tells = ap (λ b. cond b quant.Forall quant.Exists) (sym (not_first sign.Forall sign.Exists l h)) }

-- the place of the token at hand
pub place_here : (r : Reader) (x : Lexeme) (us : List Lexeme) → left r ≡ x ∷ us → place_at r ≡ x.place
place_here r x us e = ap (λ us. place_or (length r.text.now) (first us)) e
