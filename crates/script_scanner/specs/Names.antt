-- Names. ECMA-262, 12th edition, clause 12.6; the properties XID_Start and XID_Continue, where the standard has ID_Start
-- and ID_Continue, are this project's own choice, and so is that a name has no escapes.
use Rattle.std.specs.Prelude.{ℕ, ◌+◌, Bool, ◌||◌, ◌==◌, List, [], ◌∷◌}
use Rattle.std.specs.List.{prefix_len}
use Rattle.unicode_ident.specs.Ident.{is_xid_start, is_xid_continue}

-- IdentifierStartChar: with `$` and `_`.
abbrev pub is_name_start : ℕ → Bool
is_name_start c = is_xid_start c || (c == 0x24) || (c == 0x5F)

-- IdentifierPartChar: with `$`, ZWNJ and ZWJ.
abbrev pub is_name_part : ℕ → Bool
is_name_part c = is_xid_continue c || (c == 0x24) || (c == 0x200C) || (c == 0x200D)

-- How many code points the name takes that begins with the first one.
abbrev pub name_length : List ℕ → ℕ
name_length [] = 0
name_length (c ∷ codes) = 1 + prefix_len is_name_part codes
