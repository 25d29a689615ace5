-- What a test of a record's chain goes by (font_chains/specs/Followed.antt).
--     client_followed, ours_followed, alone_followed    in the client's table, in ours under it, and in ours alone
--     alone_ends    our chains under an empty client are our chains
-- Assumes nothing.
use mathlib.Core.Path.{◌≡◌, refl, sym, ap₂, ◌∙◌}
use mathlib.Core.Bool.{Bool, true, ◌&&◌}
use mathlib.Core.List.{List, [], ◌∷◌}
use mathlib.Core.Option.{Option, none, some}
use Prim.Native.Nat.{ℕ, suc, ◌+◌, ◌<◌}
use native.Mathlib.Omega.{arith}
use lib.ListN.{length, get_or, drop}
use lib.Seq.{get_or-drop}
use Rattle.laws.specs.Options.{none_some}
use Rattle.words.specs.WordLaws.{Bytes}
use Rattle.font.specs.Records.{header_bytes, character_records, client_records, client_count, pieces, size_byte, family_byte, code_byte, flag_byte, every, good_records}
use Rattle.font.specs.Font.{Metrics, Font, metrics_of, lookup, font_of, font_with}
use Rattle.font.specs.FontLaws.{with_empty, ours_alone, sound_ours, sound_client, sound_alone, seen_ends_lem}
use Rattle.font.specs.Chains.{next, goes_on, chain_ends}
use Rattle.font.specs.Table.{seen_ends, SoundTables}
use Rattle.font_chains.specs.Followed.{Followed, AllFollowed}
use Rattle.font.specs.MetricsLaws.{successor_none}
use Rattle.font.specs.LookupLaws.{ours, our_part, own_record}

-- ---- the chain that starts at a record

module _ (F : Font) (r : List ℕ) where
  unflagged_ends : (flag_byte r ≡ 1 → ⊥) → chain_ends F r ≡ true
  unfolding chain_ends goes_on next metrics_of
  unflagged_ends h = rw (successor_none r h)

  -- a record that is its own symbol's
  own_ends : F.symbol (size_byte r) (family_byte r) (code_byte r) ≡ some (metrics_of r) → seen_ends F r ≡ chain_ends F r
  unfolding seen_ends chain_ends
  own_ends is = rw is

-- ---- in both tables

-- the bytes of our records are bytes of the table
behind : (t : List ℕ) → Bytes t → Bytes (drop header_bytes t)
behind t byte i = rw get_or-drop (byte (header_bytes + i))

our_own : (t : List ℕ) → good_records t ≡ true → Bytes t → (i : ℕ) → i < length (character_records t) →
    let r = get_or (character_records t) i [] in
    lookup (size_byte r) (family_byte r) (code_byte r) (character_records t) ≡ some (metrics_of r)
our_own t good byte i =
    rw (ours_alone t) at (own_record (drop header_bytes t) (sound_ours t good) (behind t byte) i)

-- an empty table has no symbol
empty_lookup : (c : List ℕ) (size family code : ℕ) → length c ≡ 0 → lookup size family code (client_records c) ≡ none
unfolding client_records client_count pieces lookup
empty_lookup [] size family code h = refl
empty_lookup (b ∷ c) size family code h = absurd (omega arith)

module _ (t c : List ℕ) (sound : SoundTables t c) where
  abbrev F : Font
  F = font_with t c

  -- a record that is its own symbol's
  own_followed : (r : List ℕ) → F.symbol (size_byte r) (family_byte r) (code_byte r) ≡ some (metrics_of r) → Followed t c r
  own_followed r is = record { quiet = λ h. own_ends F r is ∙ unflagged_ends F r h; own = λ e. own_ends F r is }

  pub client_followed : Bytes c → AllFollowed t c (client_records c)
  unfolding font_with
  client_followed byte =
      record { each = λ i h. own_followed (get_or (client_records c) i []) (rw (own_record c (sound_client c sound.client) byte i h)) }

  -- one of ours is its own symbol's, or is hidden by a record of the client's, whose chain ends
  pub ours_followed : Bytes t → every (seen_ends F) (client_records c) ≡ true → AllFollowed t c (client_records (ours t))
  unfolding font_with font_of seen_ends
  ours_followed byte ends =
      rw (our_part t)
      record {
        each = λ i h.
            let r = get_or (character_records t) i [] in
            by_client r (our_own t sound.ours byte i h) (lookup (size_byte r) (family_byte r) (code_byte r) (client_records c)) refl;
      }
    where
      by_client : (r : List ℕ) → lookup (size_byte r) (family_byte r) (code_byte r) (character_records t) ≡ some (metrics_of r) →
          (m : Option Metrics) → lookup (size_byte r) (family_byte r) (code_byte r) (client_records c) ≡ m → Followed t c r
      by_client r own none is = own_followed r (rw is own)
      by_client r own (some m) is =
          record {
            quiet = λ h. rw (seen_ends_lem F (size_byte r) (family_byte r) (code_byte r) (client_records c) ends m is);
            own = λ e. absurd (none_some (sym (empty_lookup c (size_byte r) (family_byte r) (code_byte r) e) ∙ is));
          }

-- ---- ours alone

every_same : (f g : List ℕ → Bool) (l : List (List ℕ)) → ((i : ℕ) → i < length l → f (get_or l i []) ≡ g (get_or l i [])) → every f l ≡ every g l
unfolding every
every_same f g [] same = refl
every_same f g (r ∷ l) same = ap₂ (λ (a b : Bool). a && b) (same 0 (omega arith)) (every_same f g l (λ i h. same (suc i) (omega arith)))

module _ (t : List ℕ) (good : good_records t ≡ true) (byte : Bytes t) where
  pub alone_followed : AllFollowed t [] (client_records (ours t))
  unfolding client_records client_count pieces every
  alone_followed = ours_followed t [] (sound_alone t good) byte refl

  pub alone_ends : every (seen_ends (font_with t [])) (client_records (ours t)) ≡ every (chain_ends (font_of t)) (character_records t)
  unfolding font_of
  alone_ends =
      rw (with_empty t, our_part t)
      (every_same (seen_ends (font_of t)) (chain_ends (font_of t)) (character_records t)
      (λ i h. own_ends (font_of t) (get_or (character_records t) i []) (our_own t good byte i h)))
