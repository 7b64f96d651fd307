-- The canonical text of each shared structure is a spelling of it; the row of a number in a table.
use Rattle.std.proofs.Common.{ℕ, ◌^◌, ◌<◌, Bool, true, false, eqb, List, [], ◌∷◌, Option, Some, None, refl, append_assoc, arith}
use Rattle.std.specs.Prelude.{IfSome, ◌==◌}
use Rattle.lnfs_xdr.specs.Format.{Word, If, optional}
use Rattle.lnfs_xdr.specs.Canon.{word}
use Rattle.lnfs_xdr.proofs.Spelled.{Spelled, word_spelled, long_spelled, among_spelled, count_spelled, fixed_spelled, opaque_spelled, done_spelled, ◌▸◌, last, grouped, on_true, on_false}
use Rattle.lnfs_attrs.specs.Bitmaps.{IsWord}
use Rattle.lnfs_attrs.specs.Parsing.{Args}
use Rattle.lnfs_attrs.proofs.Words.{bitmap_spelled}
use Rattle.lnfs_attrs.specs.declared.raw.RawAttrs.{RawAttrs}
use Rattle.lnfs_arguments.specs.declared.stateid.StateId.{StateId}
use Rattle.lnfs_arguments.specs.declared.stateid.Cinfo.{Cinfo}
use Rattle.lnfs_arguments.specs.declared.channel.Channel.{Channel}
use Rattle.lnfs_arguments.specs.Shared.{attrs, state_id, cinfo, channel}
use Rattle.lnfs_arguments.specs.SharedTexts.{optional_word, attrs_text, state_id_text, cinfo_text, channel_text, AttrsFit, StateIdFits, CinfoFits, ChannelFits}

-- a word that is written out
pub tag : (n : ℕ) → n < 2 ^ 32 → Spelled {E = ℕ × ℕ} Word n (word n)
tag n lt = word_spelled n lt

pub optional_spelled : (o : Option ℕ) → IfSome o IsWord → Spelled {E = ℕ × ℕ} (optional Word) o (optional_word o)
optional_spelled None fits = last (count_spelled 1 0 (omega arith) (omega arith)) (on_true (done_spelled None))
optional_spelled (Some n) fits = count_spelled 1 1 (omega arith) (omega arith) ▸ on_false (last (word_spelled n fits) (done_spelled (Some n)))

pub attrs_spelled : (a : RawAttrs) → AttrsFit a → Spelled attrs a (attrs_text a)
unfolding attrs attrs_text
attrs_spelled a fits = bitmap_spelled a.mask fits.0 ▸ last (opaque_spelled 65536 a.list fits.1 (omega (arith, fits.1))) (done_spelled a)

pub state_id_spelled : (s : StateId) → StateIdFits s → Spelled state_id s (state_id_text s)
unfolding state_id state_id_text
state_id_spelled s fits = word_spelled _ fits.0 ▸ last (fixed_spelled 12 s.other fits.1) (done_spelled s)

pub cinfo_spelled : (c : Cinfo) → CinfoFits c → Spelled cinfo c (cinfo_text c)
unfolding cinfo cinfo_text
cinfo_spelled c fits = grouped (among_spelled (λ n. n == 1) 1 refl (omega arith) ▸ long_spelled _ fits.0 ▸ last (long_spelled _ fits.1) (done_spelled c)) (simp append_assoc)

pub channel_spelled : (c : Channel) → ChannelFits c → Spelled channel c (channel_text c)
unfolding channel channel_text
channel_spelled c fits = grouped (word_spelled _ fits.0 ▸ word_spelled _ fits.1 ▸ word_spelled _ fits.2 ▸ word_spelled _ fits.3 ▸ word_spelled _ fits.4 ▸ word_spelled _ fits.5 ▸ last (optional_spelled c.ird fits.6) (done_spelled c)) (simp append_assoc)

-- ---- the row of a number in a table

abbrev pub chosen : {A : Type 0} → Bool → Args A → Args A → Args A
chosen true f g = f
chosen false f g = g

-- or another, where it has none
abbrev pub picked : {A : Type 0} → List (ℕ × Args A) → ℕ → Args A → Args A
picked [] number other = other
picked ((n, f) ∷ more) number other = chosen (eqb number n) f (picked more number other)

pub on_chosen : {A : Type 0} (b : Bool) (f g h : Args A) (x : A) (bytes : List ℕ) → (Spelled g x bytes → Spelled h x bytes) → Spelled (chosen b f g) x bytes → Spelled (If b f h) x bytes
on_chosen true f g h x bytes later p = on_true p
on_chosen false f g h x bytes later p = on_false (later p)
