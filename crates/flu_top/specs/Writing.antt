-- The writing of what a command produced.
use Rattle.std.specs.Prelude.{◌≡◌, ℕ, List, Option, None, Result, Ok, Err}
use Rattle.flu_outside.specs.Outside.{WhereTold, Rose}
use Rattle.flu_outside.specs.Writing.{AppendsAll, AppendsPart}
use Rattle.flu_lines.specs.declared.products.Said.{Said}
use Rattle.flu_top.specs.declared.products.Product.{Product}
use Rattle.flu_lines.specs.declared.refusals.Refusal.{Refusal}
use Rattle.flu_lines.specs.declared.refusals.Refusal.TheVariants as refusals

-- a text as a product that says nothing
abbrev pub as_product : Result (List ℕ) Refusal → Result Product Refusal
as_product (Ok text) = Ok (record { text = text; says = None })
as_product (Err refusal) = Err refusal

-- all of the product's text was written, and what it says is to be said
pub record IsPutAll (product : Product) (had has : Option (List ℕ)) (said : Option Said) : Type 0 where
  pub says : said ≡ product.says
  pub all : WhereTold had has (AppendsAll product.text)

-- out failed, and has a prefix of the product's text
pub record IsPutPart (product : Product) (had has : Option (List ℕ)) (before now : ℕ) (refusal : Refusal) : Type 0 where
  pub is : refusal ≡ refusals.WriteFault
  pub part : WhereTold had has (AppendsPart product.text)
  pub rose : Rose before now

-- nothing was produced, and nothing was written
pub record IsPassedOn (why : Refusal) (had has : Option (List ℕ)) (refusal : Refusal) : Type 0 where
  pub is : refusal ≡ why
  pub nothing : has ≡ had

abbrev pub IsPut : Result Product Refusal → Option (List ℕ) → Option (List ℕ) → ℕ → ℕ → Result (Option Said) Refusal → Type 0
IsPut (Ok product) had has before now (Ok said) = IsPutAll product had has said
IsPut (Ok product) had has before now (Err refusal) = IsPutPart product had has before now refusal
IsPut (Err why) had has before now (Ok said) = ⊥
IsPut (Err why) had has before now (Err refusal) = IsPassedOn why had has refusal
