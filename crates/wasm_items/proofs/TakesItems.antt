-- What is read is spelled so, and within limits: what the sections hold.
use Rattle.std.proofs.Common.{◌≡◌, ℕ, ◌++◌, List, [], ◌∷◌, Some, refl}
use Rattle.std.proofs.lemmas.List.{append-nil}
use Rattle.std.specs.Prelude.{nat_le}
use Rattle.wasm_ast.specs.declared.module.ImportDescription.{ImportDescription}
use Rattle.wasm_ast.specs.declared.module.Global.{Global}
use Rattle.wasm_ast.specs.declared.module.ExportDescription.{ExportDescription}
use Rattle.wasm_ast.specs.declared.module.ExportDescription.TheVariants as export
use Rattle.wasm_ast.specs.declared.module.Element.{Element}
use Rattle.wasm_ast.specs.declared.module.Data.{Data}
use Rattle.wasm_ast.specs.Limits.{IsBodyWithin}
use Rattle.wasm_items.specs.Bytes.{Byte, U32}
use Rattle.wasm_items.specs.Items.{SpellsImportDescription, SpellsImport, SpellsGlobal, SpellsExportDescription, SpellsExport, SpellsElement, SpellsData}
use Rattle.wasm_items.specs.inside.Reading.{any_count}
use Rattle.wasm_items.specs.inside.ReadingItems.{import_of, import_description_at, import_at, global_at, export_of, export_description_at, export_at, element_at, data_at}
use Rattle.wasm_items.proofs.TakesCode.{expression_takes}
use Rattle.wasm_items.proofs.TakesParts.{byte_takes, u32_takes, vector_takes, bytes_take, name_takes, limits_takes, table_type_takes, global_type_takes}
use Rattle.wasm_items.proofs.Tools.{bind_some, guarded_some, some_is, never, by_byte, IsSound, Within, Then_takes, made_takes, Then-joined}

-- ---- imports and exports

-- the byte of a kind, and what follows it
abbrev DescriptionBehind : ℕ → ImportDescription → List ℕ → Type 0
DescriptionBehind kind d f = SpellsImportDescription d (kind ∷ f)

import_of_takes : (kind : ℕ) → IsSound (import_of kind) (DescriptionBehind kind)
unfolding import_of
import_of_takes kind bytes x fits e =
    by_byte kind 0x00 _ _ _ e (λ is h. rw is (made_takes (DescriptionBehind 0x00) u32_takes fits h λ t f s. Then-joined (0x00 ∷ []) f refl s)) λ e1.
    by_byte kind 0x01 _ _ _ e1 (λ is h. rw is (made_takes (DescriptionBehind 0x01) table_type_takes fits h λ l f s. Then-joined (0x01 ∷ []) f refl s)) λ e2.
    by_byte kind 0x02 _ _ _ e2 (λ is h. rw is (made_takes (DescriptionBehind 0x02) limits_takes fits h λ l f s. Then-joined (0x02 ∷ []) f refl s)) λ e3.
    by_byte kind 0x03 _ _ _ e3 (λ is h. rw is (made_takes (DescriptionBehind 0x03) global_type_takes fits h λ t f s. Then-joined (0x03 ∷ []) f refl s)) λ e4.
    never x e4

import_description_takes : IsSound import_description_at SpellsImportDescription
unfolding import_description_at
import_description_takes bytes x fits e =
    Then_takes _ byte_takes fits e λ kind f b s fits1 e1. rw s (import_of_takes kind b x fits1 e1)

pub import_takes : IsSound import_at SpellsImport
unfolding import_at
import_takes bytes x fits e =
    Then_takes _ name_takes fits e λ from f b s fits1 e1.
    Then_takes _ name_takes fits1 e1 λ name f1 b1 s1 fits2 e2.
    made_takes (λ i f2. SpellsImport i (f ++ (f1 ++ f2))) import_description_takes fits2 e2 λ d f2 s2.
    Then-joined f (f1 ++ f2) s (Then-joined f1 f2 s1 s2)

export_of_spells : (kind x : ℕ) (d : ExportDescription) (f f1 : List ℕ) → export_of kind x ≡ Some d → Byte kind f → U32 x f1
    → SpellsExportDescription d (f ++ f1)
export_of_spells kind x d f f1 e s s1 =
    by_byte kind 0x00 _ _ _ e (λ is h. rw (← some_is (export.Function x) d h) (Then-joined f f1 (rw (← is) s) s1)) λ e1.
    by_byte kind 0x01 _ _ _ e1 (λ is h. rw (← some_is (export.Table x) d h) (Then-joined f f1 (rw (← is) s) s1)) λ e2.
    by_byte kind 0x02 _ _ _ e2 (λ is h. rw (← some_is (export.Memory x) d h) (Then-joined f f1 (rw (← is) s) s1)) λ e3.
    by_byte kind 0x03 _ _ _ e3 (λ is h. rw (← some_is (export.Global x) d h) (Then-joined f f1 (rw (← is) s) s1)) λ e4.
    never d e4

export_description_takes : IsSound export_description_at SpellsExportDescription
unfolding export_description_at
export_description_takes bytes x fits e =
    Then_takes _ byte_takes fits e λ kind f b s fits1 e1.
    let g = guarded_some (nat_le kind 0x03) _ x e1 in
    Then_takes _ u32_takes fits1 g.1 λ n f1 b1 s1 fits2 e2.
    let d = bind_some (export_of kind n) (λ d. Some (d, b1)) x e2 in
    rw (← some_is (d.0, b1) x d.2) (record { front = []; is_spelled = rw append-nil (export_of_spells kind n d.0 f f1 d.1 s s1); parts = refl })

pub export_takes : IsSound export_at SpellsExport
unfolding export_at
export_takes bytes x fits e =
    Then_takes _ name_takes fits e λ name f b s fits1 e1.
    made_takes (λ x f1. SpellsExport x (f ++ f1)) export_description_takes fits1 e1 λ d f1 s1.
    Then-joined f f1 s s1

-- ---- globals, elements and data

pub global_takes : IsSound global_at (Within SpellsGlobal (λ g. IsBodyWithin g.initial))
unfolding global_at
global_takes bytes x fits e =
    Then_takes _ global_type_takes fits e λ t f b s fits1 e1.
    made_takes (λ (g : Global) f1. SpellsGlobal g (f ++ f1) × IsBodyWithin g.initial) expression_takes fits1 e1 λ c f1 s1.
    (Then-joined f f1 s s1.0, s1.1)

pub element_takes : IsSound element_at (Within SpellsElement (λ e. IsBodyWithin e.offset))
unfolding element_at
element_takes bytes x fits e =
    Then_takes _ u32_takes fits e λ table f b s fits1 e1.
    Then_takes _ expression_takes fits1 e1 λ offset f1 b1 s1 fits2 e2.
    made_takes (λ (e : Element) f2. SpellsElement e (f ++ (f1 ++ f2)) × IsBodyWithin e.offset) (vector_takes U32 u32_takes any_count) fits2 e2 λ functions f2 s2.
    (Then-joined f (f1 ++ f2) s (Then-joined f1 f2 s1.0 s2.is_vector), s1.1)

pub data_takes : IsSound data_at (Within SpellsData (λ d. IsBodyWithin d.offset))
unfolding data_at
data_takes bytes x fits e =
    Then_takes _ u32_takes fits e λ memory f b s fits1 e1.
    Then_takes _ expression_takes fits1 e1 λ offset f1 b1 s1 fits2 e2.
    made_takes (λ (d : Data) f2. SpellsData d (f ++ (f1 ++ f2)) × IsBodyWithin d.offset) bytes_take fits2 e2 λ content f2 s2.
    (Then-joined f (f1 ++ f2) s (Then-joined f1 f2 s1.0 s2), s1.1)
