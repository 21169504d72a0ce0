-- How a function follows its program, step by step, and how it ends.
use Rattle.std.proofs.Common.{◌≡◌, ℕ, ◌⊎◌, Bool, true, false, Some, None, Ok, Err, Option, sym, refl, subst, inl, inr}
use Rattle.std.specs.declared.result.Result as result
use Rattle.std.specs.Result.{IsErrAnd}
use Rattle.tokens.specs.Lexeme.{Lexeme}
use Rattle.tokens.specs.declared.Mark.TheVariants as sign
use Rattle.syntax.specs.Tree.{Tree, Trees, Pattern, Patterns}
use Rattle.grammar.specs.Steps.{Test, is, Job, Limit, Next, after_item, after_pattern, Result, Prog, ret, on, want, ahead, call, out, first, second, Hits, Misses, body, Run, r_ret, r_on, r_off, r_want, r_refuse, r_both, r_only, r_none, r_call, r_fails}
use Rattle.reading.specs.declared.entry.Entry.{Entry}
use Rattle.reading.specs.declared.source.Bad.{Bad}
use Rattle.reading.specs.declared.source.Limit as own
use Rattle.reading.specs.declared.source.Reader.{Reader}
use Rattle.reading.specs.Sources.{limit_of, left, Takes, Leaves, Both, Alone, Follows, Puts, Way, Came}
use Rattle.reading.proofs.Held.{same, ◌then◌}

module _ {i : Job} {r r' : Reader} {far : Bool} {v : Option (Result i)} where
  -- the next token was taken, where it had to come
  pub wanted : {t : Test} {k : Lexeme → Prog (Result i)} {s : Reader} (h : Takes r s t) → Way i (k h.token) s false r' v → Way i (want t k) r far r' v
  wanted {t} {k} h w = record {
    then = w.then;
    run = subst (λ us. Run i (want t k) us far (out v (left r') w.then)) (sym h.here) (r_want h.passes w.run);
    later = h.moves.later then w.later;
  }

  -- it was taken, where it may come
  pub taken : {t : Test} {p : Prog (Result i)} {k : Lexeme → Prog (Result i)} {s : Reader} (h : Takes r s t) → Way i (k h.token) s false r' v → Way i (on t p k) r far r' v
  taken {t} {p} {k} h w = record {
    then = w.then;
    run = subst (λ us. Run i (on t p k) us far (out v (left r') w.then)) (sym h.here) (r_on h.passes w.run);
    later = h.moves.later then w.later;
  }

  -- it was another
  pub passed : {t : Test} {p : Prog (Result i)} {k : Lexeme → Prog (Result i)} {s : Reader} → Leaves r s t → Way i p s far r' v → Way i (on t p k) r far r' v
  passed {t} {p} {k} {s} h w = record {
    then = w.then;
    run = r_off h.misses (subst (λ us. Run i p us far (out v (left r') w.then)) (sym h.here) w.run);
    later = h.moves.later then w.later;
  }

  -- two tokens were taken, or neither
  pub both : {t u : Test} {q p : Prog (Result i)} {k : Lexeme → Prog (Result i)} {s : Reader} (h : Both r s t u) → Way i (k h.token) s false r' v → Way i (ahead t u q p k) r far r' v
  both {t} {u} {q} {p} {k} h w = record {
    then = w.then;
    run = subst (λ us. Run i (ahead t u q p k) us far (out v (left r') w.then)) (sym h.here) (r_both h.passes h.passes_too w.run);
    later = h.moves.later then w.later;
  }

  pub neither : {t u : Test} {p : Prog (Result i)} {k : Lexeme → Prog (Result i)} {s : Reader} → Alone r s t u → ((far : Bool) → Way i p s far r' v) → Way i (ahead t u p p k) r far r' v
  neither {t} {u} {p} {k} {s} h w = go h.misses
    where
      on_left : {far : Bool} (w : Way i p s far r' v) → Run i p (left r) far (out v (left r') w.then)
      on_left {far} w = subst (λ us. Run i p us far (out v (left r') w.then)) (sym h.here) w.run

      go : Misses t (first (left r)) ⊎ (Hits t (first (left r)) × Misses u (second (left r))) → Way i (ahead t u p p k) r far r' v
      go (inl m) = record { then = (w far).then; run = r_none m (on_left (w far)); later = h.moves.later then (w far).later }
      go (inr m) = record { then = (w true).then; run = r_only m.0 m.1 (on_left (w true)); later = h.moves.later then (w true).later }

  -- a function was called, and came to a value
  pub called : {N : Type 0} {j : Job} {k : Result j → Prog (Result i)} {s : Reader} {holds : Reader → N → Result j → Type 0} {x : N} (g : Came j (body j) r far s holds (Ok x)) → Way i (k g.ends.value) s g.ends.way.then r' v → Way i (call j k) r far r' v
  called g w = record { then = w.then; run = r_call g.ends.way.run w.run; later = g.ends.way.later then w.later }

  -- an entry was added
  pub added : {p : Prog (Result i)} {s : Reader} {e : Entry} {n : ℕ} → Puts r s e n → Way i p s far r' v → Way i p r far r' v
  added {p} h w = record {
    then = w.then;
    run = subst (λ us. Run i p us far (out v (left r') w.then)) (sym h.here) w.run;
    later = h.later then w.later;
  }

  -- the program is written otherwise
  pub rewritten : {p q : Prog (Result i)} → p ≡ q → Way i q r far r' v → Way i p r far r' v
  rewritten e w = subst (λ p. Way i p r far r' v) (sym e) w

module _ {i : Job} {r r' : Reader} {far : Bool} where
  -- the ends: another token than had to come, a call that refused
  pub refused : {t : Test} {k : Lexeme → Prog (Result i)} → Leaves r r' t → Way i (want t k) r far r' None
  refused {t} {k} h = record { then = far; run = subst (λ us. Run i (want t k) (left r) far (out None us far)) h.here (r_refuse h.misses); later = h.moves.later }

  pub failed : {N : Type 0} {j : Job} {k : Result j → Prog (Result i)} {holds : Reader → N → Result j → Type 0} {e : Bad} → Came j (body j) r far r' holds (Err e) → Way i (call j k) r far r' None
  failed w = record { then = w.ends.then; run = r_fails w.ends.run; later = w.ends.later }

-- a value
pub ended : {i : Job} {r : Reader} {far : Bool} {a : Result i} → Way i (ret a) r far r (Some a)
ended {far} = record { then = far; run = r_ret; later = record { text = refl; entries = same _ } }

module _ {N : Type 0} {i : Job} {r r' : Reader} {far : Bool} {holds : Reader → N → Result i → Type 0} where
  pub returned : {p : Prog (Result i)} {a : Result i} {x : N} → Way i p r far r' (Some a) → holds r' x a → Came i p r far r' holds (Ok x)
  returned {a} w h = record { ends = record { value = a; way = w; held = h } }

  pub lost : {p : Prog (Result i)} (res : result.Result N Bad) (Q : Bad → Type 0) → IsErrAnd res Q → Way i p r far r' None → Came i p r far r' holds res
  lost (Ok x) Q h w = absurd h
  lost (Err e) Q h w = record { ends = w }

  -- a function that ends as another does, behind some steps
  pub tail : {p q : Prog (Result i)} {s : Reader} {far' : Bool} {res : result.Result N Bad} → Came i p s far' r' holds res → ((v : Option (Result i)) → Way i p s far' r' v → Way i q r far r' v) → Came i q r far r' holds res
  tail {res = Ok x} g w = record { ends = record { value = g.ends.value; way = w (Some g.ends.value) g.ends.way; held = g.ends.held } }
  tail {res = Err e} g w = record { ends = w None g.ends }

  -- a call whose value is the value
  pub passing : {j : Job} (f : Result j → Result i) {res : result.Result N Bad} → Came j (body j) r far r' (λ x n a. holds x n (f a)) res → Came i (call j (λ v. ret (f v))) r far r' holds res
  unfolding called failed ended
  passing f {res = Ok x} g = record { ends = record { value = f g.ends.value; way = called g ended; held = g.ends.held } }
  passing f {res = Err e} g = record { ends = failed g }

-- the parts of a list: behind one, a comma and more, or the end
abbrev pub after : (i : Job) (parts : Limit → Job) → Prog (Result i) → ((l : Limit) → Result (parts l) → Prog (Result i)) → Next → Prog (Result i)
after i parts p k (Next.may l) = on (is sign.Comma) p λ _. call (parts l) (k l)
after i parts p k (Next.must l) = want (is sign.Comma) λ _. call (parts l) (k l)
after i parts p k Next.last = p

pub after_pattern_is : (l : Limit) (n : Next) (a : Pattern) → after_pattern n a ≡ after (Job.patterns l) Job.patterns (ret (Patterns.more a Patterns.none)) (λ _ ps. ret (Patterns.more a ps)) n
after_pattern_is l (Next.may m) a = refl
after_pattern_is l (Next.must m) a = refl
after_pattern_is l Next.last a = refl

pub after_item_is : (l : Limit) (n : Next) (a : Tree) → after_item n a ≡ after (Job.items l) Job.items (ret (Trees.more a Trees.none)) (λ _ ts. ret (Trees.more a ts)) n
after_item_is l (Next.may m) a = refl
after_item_is l (Next.must m) a = refl
after_item_is l Next.last a = refl

module _ {i : Job} (parts : Limit → Job) (p : Prog (Result i)) (k : (l : Limit) → Result (parts l) → Prog (Result i)) {r r' : Reader} {far : Bool} where
  pub more : {s : Reader} {v : Option (Result i)} (n : Next) (m : own.Limit) → Follows n r s (Ok (Some m)) → Way i (call (parts (limit_of m)) (k (limit_of m))) s false r' v → Way i (after i parts p k n) r far r' v
  unfolding taken wanted
  more {s} {v} (Next.may l) m f w = taken f.0 (subst (λ l. Way i (call (parts l) (k l)) s false r' v) f.1 w)
  more {s} {v} (Next.must l) m f w = wanted f.0 (subst (λ l. Way i (call (parts l) (k l)) s false r' v) f.1 w)
  more Next.last m f w = absurd f

  pub no_more : {s : Reader} {v : Option (Result i)} (n : Next) → Follows n r s (Ok None) → Way i p s far r' v → Way i (after i parts p k n) r far r' v
  unfolding passed
  no_more (Next.may l) f w = passed f w
  no_more (Next.must l) f w = absurd f
  no_more {v} Next.last f w = record { then = w.then; run = subst (λ us. Run i p us far (out v (left r') w.then)) (sym f.0) w.run; later = f.1.later then w.later }

  pub none_where_due : (n : Next) (e : Bad) → Follows n r r' (Err e) → Way i (after i parts p k n) r far r' None
  unfolding refused
  none_where_due (Next.may l) e f = absurd f
  none_where_due (Next.must l) e f = refused f
  none_where_due Next.last e f = absurd f
