-- Text in a lent buffer.
use Rattle.std.specs.Prelude.{ℕ, ◌≡◌, List, take}
use Rattle.console.specs.Text.{Put}
use Rattle.console.specs.declared.text.Text.{Text}

-- the text so far
abbrev pub text_of : Text → List ℕ
text_of t = take t.len t.out.now

-- what putting some bytes leaves of a text: the same buffer, and in it the bytes past the text so far
pub record Puts (before : Text) (bytes : List ℕ) (after : Text) : Type 0 where
  pub same_buffer : after.out.ghost_name ≡ before.out.ghost_name
  pub put : Put before.out.now after.out.now before.len after.len bytes
