-- Keys are hashed, and what they are at low level.
use Rattle.std.proofs.Common.{◌≡◌, ◌⊎◌, ℕ, suc, arith, true, List, [], ◌∷◌, Option, Some, sym, ap, subst}
use Rattle.std.specs.Prelude.{slice_get}
use Rattle.csub_tree.specs.State.{Value, Word, Block, Core}
use Rattle.ll_code.specs.State.{Frame, Calling}
use Rattle.ll_code.specs.declared.program.LlType.{LlType}
use Rattle.ll_code.specs.declared.program.LlType.TheVariants as type
use Rattle.ll_code.specs.declared.program.LlProgram.{LlProgram}
use Rattle.ll_leads.proofs.Ways.{Comes}
use Rattle.ll_texts.specs.Stands.{Stands as LowStands, text as low_text, missing as low_missing}
use Rattle.rpy_tree.specs.Value.{Value as Meant, Heap}
use Rattle.rtyper_layout.specs.declared.dicts.Mapping.{Mapping}
use Rattle.rtyper_layout.specs.declared.layout.Layout.{Layout}
use Rattle.rtyper_layout.specs.Dicts.{is_plain, stored_key}
use Rattle.rtyper_dict.specs.Graphs.{dict_graph}
use Rattle.rtyper_dict.specs.Hashing.{hash_graph, of_word}
use Rattle.object_laws.specs.Dicts.{hash}
use Rattle.object_laws.specs.Ghost.{Ghost}
use Rattle.object_laws.specs.Known.{Known}
use Rattle.object_laws.specs.Done.{HasLayout}
use Rattle.object_laws.specs.Represents.{Represents}
use Rattle.object_laws.specs.Values.{Stands, word, flag, byte, text, missing, Holds}
use Rattle.dict_find_laws.specs.Asked.{HasHash}
use Rattle.ll_leads.specs.Memory.{forgotten}
use Rattle.dict_find_laws.specs.Finding.{KeysAreHashed, HasKeys, StandsStill, as_key}
use Rattle.dict_find_laws.specs.Keys.{IsThere}
use Rattle.dict_find_laws.proofs.Alike.{number_of}
use Rattle.dict_find_laws.proofs.Keying.{Sort, key_hashes, levels, plain_key_stands, pointer_kept, sort_of, word_kept}
use Rattle.dict_find_laws.proofs.Tupled.{Staying}

-- ---- the graphs

module _ (p : LlProgram) (layout : Layout) (f : ℕ) where
  pub words_asked : HasHash p layout type.Signed f → slice_get p.graphs f ≡ Some of_word
  unfolding dict_graph hash_graph
  words_asked h = (h 1).graph

-- ---- keys

-- strings are what they are for helpers
pub low : {layout : Layout} {known : Known} {g : Ghost} {heap : Heap} {left : ℕ} {blocks : List (Option Block)} {statics : List Block} {t : LlType} {x : Value} {v : Meant} → t ≡ type.Ptr 0 → Represents layout known g heap left blocks statics → Stands g t x v → LowStands blocks statics (type.Ptr 0) x v
low h r (text x bytes t) = low_text x bytes (record { is = r.stays x _ t.is; short = t.short; small = t.small })
low h r missing = low_missing
low h r (word z f) = absurd (cc)
low h r (flag b) = absurd (cc)
low h r (byte b s) = absurd (cc)

module _ (layout : Layout) (known : Known) (m : Mapping) (keys : HasKeys layout known m) where
  pub key_sort : Sort m.key
  key_sort = subst Sort keys.typed (sort_of layout keys.are)

  -- words and strings
  pub key_stands : {g : Ghost} {x : Value} {v : Meant} → (is_plain m.key ≡ true) ⊎ (m.key ≡ type.Ptr 0) → Holds layout known g (known.keys m.dict) x v → Stands g m.key x v
  key_stands {g = g} {x = x} {v = v} sort held = subst (λ t. Stands g t x v) keys.typed
      (plain_key_stands layout keys.are (subst (λ t. (is_plain t ≡ true) ⊎ (t ≡ type.Ptr 0)) (sym keys.typed) sort) (subst (λ seen. Holds layout known g seen x v) keys.key_is held))

module _ (m : Mapping) (x : Value) where
  pub word_stored : {g : Ghost} {v : Meant} → is_plain m.key ≡ true → Stands g m.key x v → as_key m x ≡ Word (number_of v)
  word_stored plain s = word_kept m.key x plain s

  pub pointer_stored : (q : ℕ) → m.key ≡ type.Ptr q → as_key m x ≡ x
  pointer_stored q h = pointer_kept m.key q x h

-- ---- what is given

-- wherever what stays is what it is
pub key_hashed : (layout : Layout) (known : Known) (p : LlProgram) (args : List (List ℕ)) (f : ℕ) (m : Mapping) (core : Core) (g : Ghost) (x : Value) (v : Meant) (keys : HasKeys layout known m) → HasLayout p layout → HasHash p layout (stored_key m) f → Staying g core.blocks core.statics → Holds layout known g (known.keys m.dict) x v → IsThere v
    → (waits : List Frame) → Comes p args (Calling f (as_key m x ∷ []) waits core) [] (Word (hash layout m.key v)) waits core
key_hashed layout known p args f m core g x v keys structs has stays held there =
    (key_hashes p args layout known structs keys.are (levels keys.are) (omega arith) m.key keys.typed f (has (suc (levels keys.are))) g core x v stays (subst (λ seen. Holds layout known g seen x v) keys.key_is held) there).comes

pub keys_are_hashed : KeysAreHashed
keys_are_hashed layout known p args f m core g heap left x v keys structs has stands held there waits =
    let it = key_hashed layout known p args f m core g x v keys structs has stands.stays held there waits in
    record { end = it.end; same = it.same; leads = it.leads }

-- variables alone were changed
pub still_so : (m : Mapping) (core mid : Core) → forgotten mid ≡ forgotten core → StandsStill m core mid
still_so m core mid same q pointer other = (ap (λ (c : Core). c.statics) same, ap (λ (c : Core). c.steps) same)
