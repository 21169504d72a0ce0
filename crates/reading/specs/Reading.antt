-- What `read` promises.
use Rattle.std.specs.Prelude.{◌≡◌, ℕ, ◌-◌, ◌<◌, ◌≤◌, ◌⊎◌, List, ◌++◌, map, length, drop, replicate, Some, None, Ok, Err, Result}
use Rattle.syntax.specs.declared.Refused.{Refused}
use Rattle.syntax.specs.Tree.{Tree}
use Rattle.tables.specs.declared.Table.{Table}
use Rattle.tables.specs.Items.{items, room}
use Rattle.tokens.specs.declared.Token.{Token}
use Rattle.tokens.specs.Lexeme.{lexeme}
use Rattle.tokens.specs.Pieces.{Cut}
use Rattle.grammar.specs.Grammar.{Sort, Derives}
use Rattle.grammar.specs.Steps.{first}
use Rattle.grammar.specs.Sentences as sentences
use Rattle.grammar.specs.Places.{places, Distinct}
use Rattle.reading.specs.declared.entry.Entry.{Entry}
use Rattle.reading.specs.declared.entry.Entry.TheVariants as entry
use Rattle.tokens.specs.declared.Refusal.{Refusal as NotCut}
use Rattle.tokens.specs.declared.Refusal.TheVariants as not_cut
use Rattle.reading.specs.declared.source.Reader.{Reader}
use Rattle.reading.specs.declared.source.Bad.{Bad}
use Rattle.reading.specs.declared.call.Draft.{Draft}
use Rattle.reading.specs.declared.call.Refusal.{Refusal}
use Rattle.reading.specs.declared.call.Refusal.TheVariants.{TooLong, SmallTable, NoToken, NoSentence}
use Rattle.reading.specs.Entries.{Holds}
use Rattle.reading.specs.Sources.{left, made, place_at, place_or}

abbrev pub told : Refusal → Refused
told TooLong = record { number = 1; place = None }
told SmallTable = record { number = 4; place = None }
told (NoToken place) = record { number = 2; place = Some place }
told (NoSentence place) = record { number = 3; place = Some place }

-- the refusal of a text that is not cut into tokens
abbrev pub cut_short : NotCut → Refusal
cut_short not_cut.TooLong = TooLong
cut_short (not_cut.NoToken place) = NoToken place

-- the tokens left to r are a sentence, whose one tree r' holds; or token number k of them is the first bad one, and r' has come to it
abbrev pub Parsed : Reader → Reader → Result ℕ Bad → Type 0
Parsed r r' (Ok node) = (tree : Tree) × (sentences.Accepted Sort.expr (left r) tree × Holds r.text.now (made r') node tree)
Parsed r r' (Err e) = (k : ℕ) × (sentences.Refused Sort.expr (left r) k × (place_at r' ≡ place_or (length r.text.now) (first (drop k (left r)))))

-- the text is cut into these tokens, which derive the tree
pub record Sentence (text : List ℕ) (tree : Tree) : Type 0 where
  pub tokens : List Token
  pub cut : Cut 0 text tokens None
  pub derived : Derives Sort.expr (map (lexeme text) tokens) tree

-- the draft holds the text's one tree, whose expressions and patterns have different places, no more than there are tokens; it stands in at most as many entries as the text has bytes; behind them every slot is empty
pub record Drafted (text : List ℕ) (before : List Entry) (d : Draft) : Type 0 where
  pub short : length text ≤ 2048
  pub large : 2048 ≤ length before
  pub tree : Tree
  pub sentence : Sentence text tree
  pub only : (u : Tree) → Sentence text u → u ≡ tree
  pub apart : Distinct (places tree)
  pub own : length (places tree) ≤ length sentence.tokens
  pub same_text : d.text.now ≡ text
  pub nodes : List Entry
  pub held : Holds text nodes d.root tree
  pub few : length nodes ≤ length text
  pub entries : d.entries.now ≡ nodes ++ replicate (length before - length nodes) entry.Empty

-- the text has a bad place, and is refused 2 there
pub record BadPlace (text : List ℕ) (w : Refusal) : Type 0 where
  pub tokens : List Token
  pub place : ℕ
  pub cut : Cut 0 text tokens (Some place)
  pub says : told w ≡ record { number = 2; place = Some place }

-- its tokens are no sentence, and it is refused 3 at the first bad token, or at its length
pub record BadToken (text : List ℕ) (w : Refusal) : Type 0 where
  pub tokens : List Token
  pub cut : Cut 0 text tokens None
  pub number : ℕ
  pub refused : sentences.Refused Sort.expr (map (lexeme text) tokens) number
  pub says : told w ≡ record { number = 3; place = Some (place_or (length text) (first (drop number (map (lexeme text) tokens)))) }

-- no tree is that of the text
pub record Denied (text : List ℕ) (w : Refusal) : Type 0 where
  pub none : (u : Tree) → Sentence text u → ⊥
  pub why : BadPlace text w ⊎ BadToken text w

-- a refusal, and what the slots hold then
pub record Undrafted (text : List ℕ) (before after : List Entry) (w : Refusal) : Type 0 where
  pub long : 2048 < length text → (told w ≡ record { number = 1; place = None }) × (after ≡ before)
  pub small : length text ≤ 2048 → length before < 2048 → (told w ≡ record { number = 4; place = None }) × (after ≡ before)
  pub bad : length text ≤ 2048 → 2048 ≤ length before → Denied text w × (after ≡ replicate (length before) entry.Empty)

-- what tokens and tree of a text come to in slots that are enough
abbrev pub Built : List ℕ → Table Entry → Table Entry → Result ℕ Refusal → Type 0
Built text t t' (Ok root) = (tree : Tree) × (Sentence text tree × (((u : Tree) → Sentence text u → u ≡ tree) × (Holds text (items t') root tree × ((room t' ≡ room t) × (length (items t') ≤ length text)))))
Built text t t' (Err w) = Denied text w × (room t' ≡ room t)
