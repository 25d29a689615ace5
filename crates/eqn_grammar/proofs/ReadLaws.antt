-- What has been read is the beginning of a text, and a token that is read goes on with it.
--     reading_tokens st           the tokens of what has been read: the levels around, each with its opening brace, then the level itself
--     Sound st                   each keyword that wants an operand may stand where it stands
--     begun_sound                so it is at the beginning
--     reads st ts                several tokens more: reads_append takes two lists one after the other; reads_sound and reads-tokens: what
--                                is read is sound, and has these tokens behind the others
--     sound_viable               what has been read can be completed: an empty group, which is an operand where one is wanted, and a
--                                closing brace for each that is open
-- The tokens of a derivation with one operand more are its own, the keyword's and the operand's (`joined_tokens`): by its cases, since
-- only the last part that is there goes on. The rest follows the clauses of `read`.
-- Assumes nothing.
use Rattle.std.specs.Prelude.{◌≡◌, refl, Bool, true, false, List, [], ◌∷◌, ◌++◌, ℕ}
use Rattle.std.proofs.Common.{sym, subst, ◌∙◌, append_assoc, append-nil}
use Rattle.std.proofs.lemmas.Bool.{false≢true}
use Rattle.std.proofs.Math.Option.{Option, none, some, bind}
use Rattle.laws.specs.Options.{none_some}
use Rattle.eqn_tokens.specs.Tokens.{Token, word, keyword, opening, closing, other}
use Rattle.eqn_grammar.specs.Grammar.{Row, nil, beside, Limited, limited, no_overs, some_overs, Overs, single, fraction, Scripted, scripted, no_primary, some_primary, Primary, named, braced, row_tokens, limited_tokens, limit_tokens, overs_tokens, scripted_tokens, script_tokens, primary_tokens, Viable}
use Rattle.eqn_grammar.specs.Parsing.{bare, alone, with_last, on_scripted, on_open, with_sub, with_sup, joined, Limit, role_of, last_scripted, open_overs, open_role, limit_of, may_follow, Level, fresh, having, wanting, Reading, taking, joining, ended, on_level, out_of, read, begun}
use Rattle.eqn_tokens.specs.declared.tokens.Keyword.{Keyword}
use Rattle.eqn_tokens.specs.declared.tokens.Keyword.TheVariants.{Sub, Sup, Over, From, To}

-- ---- the tokens of what has been read

unfoldable pub level_tokens : Level → List Token
level_tokens fresh = []
level_tokens (having r l) = row_tokens r ++ limited_tokens l
level_tokens (wanting r l j) = row_tokens r ++ (limited_tokens l ++ (keyword j ∷ []))

unfoldable pub around_tokens : List Level → List Token
around_tokens [] = []
around_tokens (l ∷ ls) = around_tokens ls ++ (level_tokens l ++ (opening ∷ []))

unfoldable pub reading_tokens : Reading → List Token
reading_tokens st = around_tokens st.around ++ level_tokens st.level

abbrev pub reading : Level → List Level → Reading
reading l ls = record { level = l; around = ls }

-- a keyword that wants an operand may follow what stands before it
abbrev pub SoundLevel : Level → Type 0
SoundLevel fresh = Unit {0}
SoundLevel (having r l) = Unit {0}
SoundLevel (wanting r l j) = may_follow j (open_role l) (limit_of l) ≡ true

abbrev pub SoundAround : List Level → Type 0
SoundAround [] = Unit {0}
SoundAround (l ∷ ls) = SoundLevel l × SoundAround ls

pub record Sound (st : Reading) : Type 0 where
  pub level : SoundLevel st.level
  pub around : SoundAround st.around

pub begun_sound : Sound begun
begun_sound = record { level = tt; around = tt }

-- ---- one operand more

last_tokens : (r : Row) (l : Limited) → row_tokens (with_last r l) ≡ row_tokens r ++ limited_tokens l
unfolding row_tokens with_last
last_tokens nil l = append-nil (limited_tokens l)
last_tokens (beside k r) l = rw (last_tokens r l, append_assoc)

-- with more behind the open part
open_tokens : (g : Overs → Overs) (ts : List Token) (l : Limited) → overs_tokens (g (open_overs l)) ≡ overs_tokens (open_overs l) ++ ts →
    limited_tokens (on_open g l) ≡ limited_tokens l ++ ts
unfolding limited_tokens limit_tokens
open_tokens g ts (limited o no_overs no_overs) e = simp (e, append-nil)
open_tokens g ts (limited o (some_overs f) no_overs) e = simp (e, append-nil, append_assoc)
open_tokens g ts (limited o f (some_overs t)) e = simp (e, append_assoc)

script_tokens_lem : (g : Scripted → Scripted) (ts : List Token) (l : Limited) →
    scripted_tokens (g (last_scripted (open_overs l))) ≡ scripted_tokens (last_scripted (open_overs l)) ++ ts →
    limited_tokens (on_open (on_scripted g) l) ≡ limited_tokens l ++ ts
unfolding overs_tokens
script_tokens_lem g ts l e = open_tokens (on_scripted g) ts l (go (open_overs l) e)
  where
    go : (o : Overs) → scripted_tokens (g (last_scripted o)) ≡ scripted_tokens (last_scripted o) ++ ts →
        overs_tokens (on_scripted g o) ≡ overs_tokens o ++ ts
    go (single s) e = e
    go (fraction o s) e = simp (e, append_assoc)

sub_tokens : (x : Primary) (s : Scripted) (l : Limit) → may_follow Sub (role_of s) l ≡ true →
    scripted_tokens (with_sub x s) ≡ scripted_tokens s ++ keyword Sub ∷ primary_tokens x
unfolding scripted_tokens script_tokens may_follow
sub_tokens x (scripted p no_primary no_primary) l m = simp append-nil
sub_tokens x (scripted p (some_primary b) no_primary) l m = absurd (false≢true m)
sub_tokens x (scripted p b (some_primary q)) l m = absurd (false≢true m)

sup_tokens : (x : Primary) (s : Scripted) (l : Limit) → may_follow Sup (role_of s) l ≡ true →
    scripted_tokens (with_sup x s) ≡ scripted_tokens s ++ keyword Sup ∷ primary_tokens x
unfolding scripted_tokens script_tokens may_follow
sup_tokens x (scripted p no_primary no_primary) l m = simp append-nil
sup_tokens x (scripted p (some_primary b) no_primary) l m = simp (append-nil, append_assoc)
sup_tokens x (scripted p b (some_primary q)) l m = absurd (false≢true m)

bare_tokens : (x : Primary) → scripted_tokens (bare x) ≡ primary_tokens x
unfolding scripted_tokens script_tokens
bare_tokens x = append-nil (primary_tokens x)

pub single_tokens : (x : Primary) → overs_tokens (single (bare x)) ≡ primary_tokens x
unfolding overs_tokens
single_tokens x = bare_tokens x

fraction_tokens_lem : (o : Overs) (x : Primary) → overs_tokens (fraction o (bare x)) ≡ overs_tokens o ++ keyword Over ∷ primary_tokens x
unfolding overs_tokens
fraction_tokens_lem o x = rw bare_tokens

alone_tokens : (x : Primary) → limited_tokens (alone x) ≡ primary_tokens x
unfolding limited_tokens limit_tokens
alone_tokens x = append-nil (overs_tokens (single (bare x))) ∙ single_tokens x

joined_tokens : (j : Keyword) (x : Primary) (l : Limited) → may_follow j (open_role l) (limit_of l) ≡ true →
    limited_tokens (joined j x l) ≡ limited_tokens l ++ keyword j ∷ primary_tokens x
unfolding joined limited_tokens limit_tokens may_follow
joined_tokens Sub x l m = script_tokens_lem (with_sub x) (keyword Sub ∷ primary_tokens x) l (sub_tokens x (last_scripted (open_overs l)) (limit_of l) m)
joined_tokens Sup x l m = script_tokens_lem (with_sup x) (keyword Sup ∷ primary_tokens x) l (sup_tokens x (last_scripted (open_overs l)) (limit_of l) m)
joined_tokens Over x l m = open_tokens (λ o. fraction o (bare x)) (keyword Over ∷ primary_tokens x) l (fraction_tokens_lem (open_overs l) x)
joined_tokens From x (limited o no_overs no_overs) m = simp (append-nil (primary_tokens x), append-nil)
joined_tokens From x (limited o (some_overs f) no_overs) m = absurd (false≢true m)
joined_tokens From x (limited o f (some_overs t)) m = absurd (false≢true m)
joined_tokens To x (limited o no_overs no_overs) m = simp (append-nil (primary_tokens x), append-nil)
joined_tokens To x (limited o (some_overs f) no_overs) m = simp (append-nil (primary_tokens x), append-nil (overs_tokens f), append_assoc)
joined_tokens To x (limited o f (some_overs t)) m = absurd (false≢true m)

taking_tokens : (l : Level) (x : Primary) → SoundLevel l → level_tokens (taking l x) ≡ level_tokens l ++ primary_tokens x
unfolding taking level_tokens row_tokens
taking_tokens fresh x h = alone_tokens x
taking_tokens (having r l) x h = rw (last_tokens, alone_tokens)
taking_tokens (wanting r l j) x h = rw (joined_tokens j x l, append_assoc, append_assoc)

taking_sound : (l : Level) (x : Primary) → SoundLevel (taking l x)
unfolding taking
taking_sound fresh x = tt
taking_sound (having r l) x = tt
taking_sound (wanting r l j) x = tt

pub ended_tokens : (l : Level) (r : Row) → ended l ≡ some r → row_tokens r ≡ level_tokens l
unfolding ended level_tokens row_tokens
ended_tokens fresh r e = let same : r ≡ nil = cc in rw same
ended_tokens (having k l) r e = let same : r ≡ with_last k l = cc in rw (same, last_tokens)
ended_tokens (wanting k l j) r e = absurd (none_some e)

-- ---- one token more

abbrev MoreIf : Reading → Token → Option Reading → Type 0
MoreIf st t none = Unit {0}
MoreIf st t (some after) = Sound after × (reading_tokens after ≡ reading_tokens st ++ (t ∷ []))

word_more : (l : Level) (ls : List Level) (w : List ℕ) → Sound (reading l ls) →
    MoreIf (reading l ls) (word w) (some (reading (taking l (named w)) ls))
unfolding reading_tokens primary_tokens
word_more l ls w s =
    (record { level = taking_sound l (named w); around = s.around }, rw (taking_tokens l (named w) s.level, append_assoc))

joining_more : (j : Keyword) (l : Level) (ls : List Level) → Sound (reading l ls) → MoreIf (reading l ls) (keyword j) (on_level ls (joining j l))
unfolding joining reading_tokens level_tokens
joining_more j fresh ls s = tt
joining_more j (having r l) ls s = go (may_follow j (open_role l) (limit_of l)) refl
  where
    go : (b : Bool) → may_follow j (open_role l) (limit_of l) ≡ b →
        MoreIf (reading (having r l) ls) (keyword j) (on_level ls (elim b [ true ↦ some (wanting r l j) | false ↦ none ]))
    go true m = (record { level = m; around = s.around }, simp append_assoc)
    go false m = tt
joining_more j (wanting r l k) ls s = tt

opening_more : (l : Level) (ls : List Level) → Sound (reading l ls) → MoreIf (reading l ls) opening (some (reading fresh (l ∷ ls)))
unfolding reading_tokens around_tokens level_tokens
opening_more l ls s = (record { level = tt; around = (s.level, s.around) }, simp (append-nil, append_assoc))

closing_more : (l : Level) (ls : List Level) → Sound (reading l ls) → MoreIf (reading l ls) closing (out_of ls (ended l))
unfolding reading_tokens around_tokens primary_tokens
closing_more l ls s = go (ended l) refl ls s.around
  where
    go : (row : Option Row) → ended l ≡ row → (ls : List Level) → SoundAround ls → MoreIf (reading l ls) closing (out_of ls row)
    go none e ls a = tt
    go (some r) e [] a = tt
    go (some r) e (k ∷ ls) a = (
      record { level = taking_sound k (braced r); around = a.1 },
      simp (taking_tokens k (braced r) a.0, append_assoc, ended_tokens l r e),
    )

read_more : (st : Reading) (t : Token) → Sound st → MoreIf st t (read st t)
unfolding read
read_more st (word w) s = word_more st.level st.around w s
read_more st (keyword k) s = joining_more k st.level st.around s
read_more st opening s = opening_more st.level st.around s
read_more st closing s = closing_more st.level st.around s
read_more st (other b) s = tt

-- ---- several tokens more

unfoldable pub reads : Reading → List Token → Option Reading
reads st [] = some st
reads st (t ∷ ts) = bind (read st t) (λ after. reads after ts)

pub reads_append : (ts us : List Token) (st : Reading) → reads st (ts ++ us) ≡ bind (reads st ts) (λ after. reads after us)
unfolding reads bind
reads_append [] us st = refl
reads_append (t ∷ ts) us st = go (read st t) (reads_append ts us)
  where
    go : (next : Option Reading) → ((st : Reading) → reads st (ts ++ us) ≡ bind (reads st ts) (λ after. reads after us)) →
        bind next (λ after. reads after (ts ++ us)) ≡ bind (bind next (λ after. reads after ts)) (λ after. reads after us)
    go none rest = refl
    go (some after) rest = rest after

pub reads_then : (ts us : List Token) (st : Reading) {mid after : Reading} → reads st ts ≡ some mid → reads mid us ≡ some after →
    reads st (ts ++ us) ≡ some after
unfolding bind
reads_then ts us st e f = rw (reads_append, e, f)

reads_more : (ts : List Token) (st after : Reading) → Sound st → reads st ts ≡ some after →
    Sound after × (reading_tokens after ≡ reading_tokens st ++ ts)
unfolding reads bind
reads_more [] st after s e = let same : after ≡ st = cc in rw same (s, sym (append-nil (reading_tokens st)))
reads_more (t ∷ ts) st after s e = go (read st t) (read_more st t s) e (λ next. reads_more ts next after)
  where
    go : (next : Option Reading) → MoreIf st t next → bind next (λ mid. reads mid ts) ≡ some after →
        ((mid : Reading) → Sound mid → reads mid ts ≡ some after → Sound after × (reading_tokens after ≡ reading_tokens mid ++ ts)) →
        Sound after × (reading_tokens after ≡ reading_tokens st ++ t ∷ ts)
    go none more e rest = absurd (none_some e)
    go (some mid) more e rest =
        let all = rest mid more.0 e in
        (all.0, all.1 ∙ rw (more.1, append_assoc))

pub begun_tokens : (ts : List Token) → reading_tokens begun ++ ts ≡ ts
unfolding reading_tokens around_tokens level_tokens
begun_tokens ts = refl

pub reads_sound : (ts : List Token) (st after : Reading) → Sound st → reads st ts ≡ some after → Sound after
reads_sound ts st after s e = (reads_more ts st after s e).0

pub reads_tokens : (ts : List Token) (st after : Reading) → Sound st → reads st ts ≡ some after →
    reading_tokens after ≡ reading_tokens st ++ ts
reads_tokens ts st after s e = (reads_more ts st after s e).1

-- ---- a text can go on with it

pub viable_before : (ts us : List Token) → Viable (ts ++ us) → Viable ts
viable_before ts us v = record { row = v.row; rest = us ++ v.rest; begins = v.begins ∙ append_assoc ts us v.rest }

taking_ends : (l : Level) (x : Primary) → (r : Row) × (ended (taking l x) ≡ some r)
unfolding ended taking
taking_ends fresh x = (with_last nil (alone x), refl)
taking_ends (having r l) x = (with_last (with_last r l) (alone x), refl)
taking_ends (wanting r l j) x = (with_last r (joined j x l), refl)

-- an empty group, and a closing brace for each that is open
sound_goes_on : (ls : List Level) (l : Level) → SoundAround ls → SoundLevel l → Viable (reading_tokens (reading l ls))
unfolding reading_tokens around_tokens primary_tokens
sound_goes_on [] l a s =
    let closed = taking_ends l (braced nil) in
    record {
      row = closed.0;
      rest = primary_tokens (braced nil);
      begins = ended_tokens (taking l (braced nil)) closed.0 closed.1 ∙ taking_tokens l (braced nil) s;
    }
sound_goes_on (k ∷ ls) l a s =
    let closed = taking_ends l (braced nil) in
    let group = braced closed.0 in
    viable_before (reading_tokens (reading l (k ∷ ls))) (opening ∷ closing ∷ closing ∷ [])
    (subst Viable (tokens closed.0 closed.1) (sound_goes_on ls (taking k group) a.1 (taking_sound k group)))
  where
    tokens : (r : Row) → ended (taking l (braced nil)) ≡ some r →
        reading_tokens (reading (taking k (braced r)) ls) ≡ reading_tokens (reading l (k ∷ ls)) ++ opening ∷ closing ∷ closing ∷ []
    tokens r e =
        simp (taking_tokens k (braced r) a.0, ended_tokens (taking l (braced nil)) r e, taking_tokens l (braced nil) s, append_assoc)

pub sound_viable : (st : Reading) → Sound st → Viable (reading_tokens st)
sound_viable st s = sound_goes_on st.around st.level s.around s.level
