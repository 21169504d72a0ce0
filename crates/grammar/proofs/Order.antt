-- The free names of a tree are listed in the order of the text.
use Rattle.std.proofs.Common.{ℕ, suc, ◌≤◌, Bool, true, false, cond, List, [], ◌∷◌, ◌++◌, sym, subst, append_assoc, arith}
use Rattle.tokens.specs.Lexeme.{Lexeme}
use Rattle.syntax.specs.Tree.{Place, Name, Tree, Trees, Alternatives, Optional}
use Rattle.syntax.specs.Names.{Occurrence, among, names, free, free_all, free_in, free_of}
use Rattle.grammar.specs.Grammar.{◌name_at◌, Operation, join, Sort, Derives, DerivesBind, DerivesItems, DerivesCases}
use Rattle.grammar.specs.Grammar.{d_let, d_let_be, d_if, d_cases, d_quantifier, d_connected, d_else, d_elseif, d_chain, d_link, d_implies, d_premise, d_prefix, d_bare, d_relation, d_in_set, d_not_in_set, d_side, d_apply, d_select, d_atom, d_numeral, d_truth, d_name, d_paren, d_empty, d_members, d_comprehension, d_filter, d_range, d_tuple, d_bind, d_last, d_more, d_only, d_others, d_next}
use Rattle.grammar.specs.Places.{Ascend, spots}
use Rattle.grammar.specs.Order.{sites, Within, done, skip, keep, Rising, TextOrder}

-- the occurrences stand among the tokens, in the same order
data Stand : List Occurrence → List Lexeme → Type 0 where
  end : Stand [] []
  pass : {u : Lexeme} {os : List Occurrence} {us : List Lexeme} → Stand os us → Stand os (u ∷ us)
  here : {n : Name} {o : Occurrence} {os : List Occurrence} {us : List Lexeme} → Stand os us → Stand (o ∷ os) (n name_at o.place ∷ us)

places_within : {os : List Occurrence} {us : List Lexeme} → Stand os us → Within (sites os) (spots us)
places_within end = done
places_within (pass h) = skip (places_within h)
places_within (here h) = keep (places_within h)

none : (us : List Lexeme) → Stand [] us
none [] = end
none (u ∷ us) = pass (none us)

-- one part behind the other
both : {os ps : List Occurrence} {us vs : List Lexeme} → Stand os us → Stand ps vs → Stand (os ++ ps) (us ++ vs)
both end k = k
both (pass h) k = pass (both h k)
both (here h) k = here (both h k)

-- tokens behind the last occurrence
more : (vs : List Lexeme) {os : List Occurrence} {us : List Lexeme} → Stand os us → Stand os (us ++ vs)
more vs end = none vs
more vs (pass h) = pass (more vs h)
more vs (here h) = here (more vs h)

-- no occurrences behind the last
less : {os : List Occurrence} {us : List Lexeme} → Stand os us → Stand (os ++ []) us
less end = end
less (pass h) = pass (less h)
less (here h) = here (less h)

regroup : (os ps qs : List Occurrence) {us : List Lexeme} → Stand (os ++ (ps ++ qs)) us → Stand ((os ++ ps) ++ qs) us
regroup os ps qs {us} h = subst (λ l. Stand l us) (sym (append_assoc os ps qs)) h

a_name : (p : Place) (n : Name) (b : Bool) → Stand (cond b [] (record { place = p; name = n } ∷ [])) (n name_at p ∷ [])
a_name p n true = none _
a_name p n false = here end

joined : (o : Operation) (p : Place) (a b : Tree) (bs : List Name) {us : List Lexeme} → Stand (free a bs ++ free b bs) us → Stand (free (join o p a b) bs) us
unfolding free free_all free_in free_of
joined (Operation.strict o) p a b bs h = h
joined (Operation.deciding o) p a b bs h = h

mutual
  unfolding free free_all free_in free_of

  stand : {s : Sort} {us : List Lexeme} {t : Tree} → Derives s us t → (bs : List Name) → Stand (free t bs) us
  stand (d_let p q r s {n = n} d e) bs = pass (pass (pass (both (stand d bs) (pass (stand e (n ∷ bs))))))
  stand (d_let_be p q r s {n = n} d e g) bs = pass (both (stand_bind d bs) (pass (pass (both (stand e (n ∷ bs)) (pass (stand g (n ∷ bs)))))))
  stand (d_if p d) bs = pass (stand d bs)
  stand (d_cases p q r d c) bs = pass (both (stand d bs) (pass (more _ (stand_cases c bs))))
  stand (d_quantifier p q {n = n} d e) bs = pass (both (stand_bind d bs) (pass (stand e (n ∷ bs))))
  stand (d_connected d) bs = stand d bs
  stand (d_else p q r d e g) bs = both (stand d bs) (pass (both (stand e bs) (pass (stand g bs))))
  stand (d_elseif p q r d e g) bs = both (stand d bs) (pass (both (stand e bs) (pass (stand g bs))))
  stand (d_chain p m {o = o} {a = a} {b = b} e d g) bs = joined o p a b bs (both (stand d bs) (pass (stand g bs)))
  stand (d_link d) bs = stand d bs
  stand (d_implies p d e) bs = both (stand d bs) (pass (stand e bs))
  stand (d_premise d) bs = stand d bs
  stand (d_prefix p m e d) bs = pass (stand d bs)
  stand (d_bare d) bs = stand d bs
  stand (d_relation p m e d g) bs = both (stand d bs) (pass (stand g bs))
  stand (d_in_set p q d e) bs = both (stand d bs) (pass (pass (stand e bs)))
  stand (d_not_in_set p q r d e) bs = both (stand d bs) (pass (pass (pass (stand e bs))))
  stand (d_side d) bs = stand d bs
  stand (d_apply p q d e) bs = both (stand d bs) (pass (more _ (stand e bs)))
  stand (d_select p q d) bs = more _ (stand d bs)
  stand (d_atom d) bs = stand d bs
  stand (d_numeral p) bs = none _
  stand (d_truth p) bs = none _
  stand (d_name p {n = n}) bs = a_name p n (among n bs)
  stand (d_paren p q d) bs = pass (more _ (stand d bs))
  stand (d_empty p q k) bs = none _
  stand (d_members p q k d) bs = pass (more _ (stand_items d bs))
  stand (d_comprehension p q r k {n = n} d e) bs = pass (both (stand d (n ∷ bs)) (pass (both (stand_bind e bs) (none _))))
  stand (d_filter p q r s k {n = n} d e g) bs = pass (both (stand d (n ∷ bs)) (pass (both (stand_bind e bs) (pass (more _ (stand g (n ∷ bs)))))))
  stand (d_range p q r s t d e) bs = pass (both (stand d bs) (pass (pass (pass (more _ (stand e bs))))))
  stand (d_tuple p q r d ge le) bs = pass (pass (more _ (stand_items d bs)))

  stand_bind : {us : List Lexeme} {n : Name} {t : Tree} → DerivesBind us n t → (bs : List Name) → Stand (free t bs) us
  stand_bind (d_bind p q r d) bs = pass (pass (pass (stand d bs)))

  stand_items : {us : List Lexeme} {ts : Trees} → DerivesItems us ts → (bs : List Name) → Stand (free_all ts bs) us
  stand_items (d_last d) bs = less (stand d bs)
  stand_items (d_more p d e) bs = both (stand d bs) (pass (stand_items e bs))

  -- a pattern has no free names
  stand_cases : {us : List Lexeme} {cs : Alternatives} {o : Optional} → DerivesCases us cs o → (bs : List Name) → Stand (free_in cs bs ++ free_of o bs) us
  stand_cases (d_only p {xs = xs} {t = t} w d) bs = less (less (both (none xs) (pass (stand d (names t ++ bs)))))
  stand_cases (d_others p q r s {xs = xs} {t = t} w d e) bs = both (none xs) (pass (both (less (stand d (names t ++ bs))) (pass (pass (pass (stand e bs))))))
  stand_cases (d_next p q {xs = xs} {t = t} {a = a} {cs = cs} {o = o} w d e) bs =
      regroup (free a (names t ++ bs)) (free_in cs bs) (free_of o bs) (both (none xs) (pass (both (stand d (names t ++ bs)) (pass (stand_cases e bs)))))

lower : (m n : ℕ) (ps : List ℕ) → m ≤ n → Rising n ps → Rising m ps
lower m n [] le h = tt
lower m n (p ∷ ps) le h = (omega (arith, h.0), h.1)

-- what stands within ascending places rises
pub rises : (n : ℕ) (ts : List Lexeme) (ps : List ℕ) → Within ps (spots ts) → Ascend n ts → Rising n ps
rises n [] ps done a = tt
rises n (x ∷ ts) ps (skip w) a = lower n (suc x.place) ps (omega (arith, a.0)) (rises (suc x.place) ts ps w a.1)
rises n (x ∷ ts) (p ∷ ps) (keep w) a = (a.0, rises (suc x.place) ts ps w a.1)

pub text_order : TextOrder
text_order = record {
  within = λ s ts t d bs. places_within (stand d bs);
  rising = λ n s ts t d a bs. rises n ts (sites (free t bs)) (places_within (stand d bs)) a;
}
