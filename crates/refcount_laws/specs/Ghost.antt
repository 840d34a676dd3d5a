-- What is counted: of each block ever made how many references lead to it, none where it is gone.
use Rattle.std.specs.Prelude.{◌≡◌, ◌≢◌, ◌⊎◌, ◌<◌, ◌^◌, ℕ, zero, suc, ◌+◌, pos, List, [], ◌∷◌, ◌++◌, length, map, slice_set, slice_index_or, Option, Some, None, true}
use Rattle.csub_tree.specs.State.{Value, Word, Fun, Null, Ptr, Static, Block}
use Rattle.csub_tree.specs.Layout.{begins_with}
use Rattle.csub_tree.specs.Statement.{read}
use Rattle.ll_code.specs.Machine.{shapes_of}
use Rattle.ll_code.specs.declared.program.LlProgram.{LlProgram}
use Rattle.refcount_laws.specs.Graphs.{Reference, Counts}

-- ---- references

abbrev pub one : ℕ → ℕ → ℕ
one zero zero = 1
one zero (suc n) = 0
one (suc m) zero = 0
one (suc m) (suc n) = one m n

-- whether the value is this reference: 1 or 0
abbrev pub hit : Value → Value → ℕ
hit (Ptr a) (Ptr b) = one b a
hit (Static a) (Static b) = one b a
hit r v = 0

abbrev pub occurs : Value → List Value → ℕ
occurs r [] = 0
occurs r (v ∷ vs) = hit r v + occurs r vs

-- ---- blocks

-- the count, the struct, the fields behind the count and the release, and the items
pub data Slot : Type 0 where
  S : (count kind : ℕ) → (fields items : List Value) → Slot

abbrev pub no_slot : Slot
no_slot = S 0 0 [] []

abbrev pub count_of : Slot → ℕ
count_of (S n kind fields items) = n

abbrev pub bare : Slot → Block
bare (S n kind fields items) = record { kind = kind; fields = fields; items = items }

abbrev pub shown : Counts → Slot → Option Block
shown c (S zero kind fields items) = None
shown c (S (suc n) kind fields items) = Some (record { kind = kind; fields = Word (pos (suc n)) ∷ Fun (c.release kind) ∷ fields; items = items })

abbrev pub slot_at : List Slot → ℕ → Slot
slot_at g a = slice_index_or g a no_slot

abbrev pub count : List Slot → ℕ → ℕ
count g a = count_of (slot_at g a)

abbrev pub bare_at : List Slot → ℕ → Block
bare_at g a = bare (slot_at g a)

-- the references in a block, in its fields and in its items
abbrev pub field_references : List Reference → List Value → List Value
field_references [] fields = []
field_references (h ∷ held) fields = read fields h.at ∷ field_references held fields

abbrev pub item_references : Option ℕ → List Value → List Value
item_references None items = []
item_references (Some m) items = items

abbrev pub references : Counts → Block → List Value
references c block = field_references (c.held block.kind) block.fields ++ item_references (c.items block.kind) block.items

abbrev pub held_by : Counts → Slot → Value → ℕ
held_by c (S zero kind fields items) r = 0
held_by c (S (suc n) kind fields items) r = occurs r (references c (record { kind = kind; fields = fields; items = items }))

-- how often blocks that are there refer to it
abbrev pub inner : Counts → List Slot → Value → ℕ
inner c [] r = 0
inner c (d ∷ g) r = held_by c d r + inner c g r

abbrev pub size_of : Counts → Slot → ℕ
size_of c (S zero kind fields items) = 0
size_of c (S (suc n) kind fields items) = length (references c (record { kind = kind; fields = fields; items = items }))

abbrev pub weight : Counts → List Slot → ℕ
weight c [] = 0
weight c (d ∷ g) = size_of c d + weight c g

-- ---- statics

-- one that is not counted, or the count, the struct, the fields behind it and the release, and the items
pub data Fixed : Type 0 where
  Alone : (block : Block) → Fixed
  F : (count kind : ℕ) → (fields items : List Value) → Fixed

abbrev pub shown_fixed : Fixed → Block
shown_fixed (Alone block) = block
shown_fixed (F n kind fields items) = record { kind = kind; fields = Word (pos n) ∷ Null ∷ fields; items = items }

abbrev pub kind_of : Fixed → ℕ
kind_of (Alone block) = block.kind
kind_of (F n kind fields items) = kind

-- the same but for the count
abbrev pub as_first : Fixed → Fixed
as_first (Alone block) = Alone block
as_first (F n kind fields items) = F 0 kind fields items

abbrev pub fixed_at : List Fixed → ℕ → Fixed
fixed_at t s = slice_index_or t s (Alone (record { kind = 0; fields = []; items = [] }))

-- ---- memory

-- blocks that were made and statics, with their counts
pub record Ghost : Type 0 where
  pub blocks : List Slot
  pub statics : List Fixed

-- so many references lead to the static: one that is its own, and those that are counted
abbrev pub IsFixed : Counts → Fixed → ℕ → Type 0
IsFixed c (Alone block) n = Unit {0}
IsFixed c (F m kind fields items) n = m ≡ suc n

-- the count has room in a word
abbrev pub IsSmall : Fixed → Type 0
IsSmall (Alone block) = Unit {0}
IsSmall (F n kind fields items) = n < 2 ^ 63

-- the value leads to a block that begins with this root, or is NULL
abbrev pub LeadsTo : LlProgram → Ghost → ℕ → Value → Type 0
LeadsTo q g to Null = Unit {0}
LeadsTo q g to (Ptr b) = begins_with (shapes_of q.structs) (bare_at g.blocks b).kind to ≡ true
LeadsTo q g to (Static s) = (n : ℕ) × (kind : ℕ) × (fields : List Value) × (items : List Value) × (fixed_at g.statics s ≡ F n kind fields items) × (begins_with (shapes_of q.structs) kind to ≡ true)
LeadsTo q g to other = ⊥

abbrev pub AllLead : LlProgram → Ghost → ℕ → List Value → Type 0
AllLead q g to [] = Unit {0}
AllLead q g to (v ∷ vs) = LeadsTo q g to v × AllLead q g to vs

abbrev pub FieldsLead : LlProgram → Ghost → List Reference → List Value → Type 0
FieldsLead q g [] fields = Unit {0}
FieldsLead q g (h ∷ held) fields = LeadsTo q g h.to (read fields h.at) × FieldsLead q g held fields

-- the items lead where they should, and their number stands in its field
abbrev pub ItemsLead : LlProgram → Counts → Ghost → Option ℕ → Block → Type 0
ItemsLead q c g None block = Unit {0}
ItemsLead q c g (Some m) block = AllLead q g m block.items × (read block.fields (c.number_at block.kind) ≡ Word (pos (length block.items))) × (length block.items < 2 ^ 63)

-- a block of a struct that is counted, whose references are NULL or lead to such blocks
pub record IsWhole (q : LlProgram) (c : Counts) (g : Ghost) (block : Block) : Type 0 where
  pub counted : c.counted block.kind ≡ true
  pub fields : FieldsLead q g (c.held block.kind) block.fields
  pub items : ItemsLead q c g (c.items block.kind) block

-- each count is the number of references in blocks that are there, and of those that `own` has besides
pub record IsCounted (q : LlProgram) (c : Counts) (g : Ghost) (own : Value → ℕ) : Type 0 where
  pub blocks : (b : ℕ) → count g.blocks b ≡ inner c g.blocks (Ptr b) + own (Ptr b)
  pub statics : (s : ℕ) → IsFixed c (fixed_at g.statics s) (inner c g.blocks (Static s) + own (Static s))
  pub small : (b : ℕ) → count g.blocks b < 2 ^ 63
  pub small_static : (s : ℕ) → IsSmall (fixed_at g.statics s)
  pub whole : (b : ℕ) → 0 < count g.blocks b → IsWhole q c g (bare_at g.blocks b)

-- the count of what the value leads to may rise
abbrev pub HasRoom : Ghost → Value → Type 0
HasRoom g (Ptr a) = (0 < count g.blocks a) × (suc (count g.blocks a) < 2 ^ 63)
HasRoom g (Static s) = (n : ℕ) (kind : ℕ) (fields items : List Value) → fixed_at g.statics s ≡ F n kind fields items → suc n < 2 ^ 63
HasRoom g other = Unit {0}

-- the statics as memory has them
abbrev pub memory : Ghost → List Block
memory g = map shown_fixed g.statics

-- a list of fields that has this one, once
abbrev pub Apart : Reference → List Reference → Type 0
Apart h [] = Unit {0}
Apart h (k ∷ held) = (k.at ≢ h.at) × Apart h held

abbrev pub OnceIn : Reference → List Reference → Type 0
OnceIn h [] = ⊥
OnceIn h (k ∷ held) = ((k ≡ h) × Apart h held) ⊎ ((k.at ≢ h.at) × OnceIn h held)

-- one block has other fields and items
abbrev pub written : Ghost → ℕ → Slot → Ghost
written g a d = record g { blocks = slice_set g.blocks a d }
