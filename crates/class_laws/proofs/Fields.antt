-- The fields of an attribute in the block of an instance.
use Rattle.std.proofs.Common.{◌≡◌, ◌<◌, ℕ, true, List, length, Some, ap, ◌∙◌}
use Rattle.std.specs.Prelude.{option_map}
use Rattle.csub_tree.specs.Layout.{Shape, shape_at, begins_with, is_among, place}
use Rattle.ll_code.specs.Machine.{shapes_of}
use Rattle.ll_code.specs.declared.program.LlProgram.{LlProgram}
use Rattle.class_desc.specs.Line.{is_below}
use Rattle.rtyper_layout.specs.declared.classes.Laid.{Laid}
use Rattle.rtyper_class.specs.Attributes.{Standing as Stood, place_in}
use Rattle.rtyper_class.specs.Seen.{World, laid}
use Rattle.object_laws.specs.Done.{HasLayout}
use Rattle.object_laws.specs.Known.{Known, Standing}
use Rattle.object_laws.specs.Represents.{shapes, value_field, set_field, value_at, set_at}
use Rattle.class_laws.specs.Classes.{IsOf, IsLaidOut, HasFields, standing_of}

-- ---- structs of the program are those of the layout

pub begins_in : (p : LlProgram) (world : World) (n m : ℕ) → HasLayout p world.around.layout → m < length world.around.layout.structs → begins_with (shapes world.around.layout) m n ≡ true → begins_with (shapes_of p.structs) m n ≡ true
begins_in p world n m structs inside h = ap (λ (s : Shape). is_among n s.bases) (structs.shapes m inside) ∙ h

pub place_in_struct : (p : LlProgram) (world : World) (n k : ℕ) → HasLayout p world.around.layout → n < length world.around.layout.structs → place (shape_at (shapes_of p.structs) n) k ≡ place (shape_at (shapes world.around.layout) n) k
place_in_struct p world n k structs inside = ap (λ s. place s k) (structs.shapes n inside)

-- ---- an attribute

-- where the attribute stands in this instance
pub record Fielded (p : LlProgram) (world : World) (known : Known) (l : Laid) (name : List ℕ) (class : ℕ) (s : Standing) : Type 0 where
  pub is : known.attribute class name ≡ Some s
  pub begins : begins_with (shapes_of p.structs) l.own s.own ≡ true
  pub value_is : place (shape_at (shapes_of p.structs) s.own) (value_field s.place) ≡ value_at world.around.layout s
  pub set_is : place (shape_at (shapes_of p.structs) s.own) (set_field s.place) ≡ set_at world.around.layout s
  pub fields : HasFields world.around.layout l s

module _ (p : LlProgram) (world : World) (known : Known) (of : IsOf world known) (out : IsLaidOut world known) (structs : HasLayout p world.around.layout) where
  pub fielded : (c class : ℕ) (l m : Laid) (name : List ℕ) (s : Stood) → is_below world.classes.classes c class ≡ true → laid world c ≡ Some l → laid world class ≡ Some m → place_in world class name ≡ Some s → Fielded p world known l name c (standing_of s)
  fielded c class l m name s below hl hm placed =
      let at : known.attribute class name ≡ Some (standing_of s) = of.attribute class name ∙ ap (option_map standing_of) placed in
      let here : known.attribute c name ≡ Some (standing_of s) = (out.inherits c class l m below hl hm).2 name (standing_of s) at in
      let fields = out.fields c l name (standing_of s) hl here in
      record {
        is = here;
        begins = begins_in p world s.own l.own structs (out.class c l hl).1 fields.begins;
        value_is = place_in_struct p world s.own (value_field s.place) structs fields.declared;
        set_is = place_in_struct p world s.own (set_field s.place) structs fields.declared;
        fields = fields;
      }
