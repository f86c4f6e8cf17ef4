-- A page: what stands round HTML, from its first line to its last.
use Rattle.std.specs.Prelude.{ℕ, List, [], ◌++◌, Option, Some, None, ◌==◌, if◌then◌else◌, length}
use Rattle.std.specs.Prelude.{codes, chars, encode_utf8, flat_map}
use denote.Ref.{Bor}
use Rattle.markdown_base.specs.Bytes.{ampersand, double_quote, greater_than, less_than}
use Rattle.markdown_page.specs.declared.page.Page.{Page}
use Rattle.markdown_page.specs.declared.page.Style.{Style}
use Rattle.markdown_page.specs.declared.page.Style.TheVariants as style
use Rattle.markdown_page.specs.PageStyle.{default_style}

-- what a character is written as in an element, or in an attribute in quotes
abbrev pub html_char : ℕ → List ℕ
html_char c =
    if c == less_than then codes "&lt;"
    else if c == greater_than then codes "&gt;"
    else if c == ampersand then codes "&amp;"
    else if c == double_quote then codes "&quot;"
    else encode_utf8 c

-- a text, escaped
abbrev pub html_escaped : List ℕ → List ℕ
html_escaped text = flat_map html_char (chars text)

-- where a page has its style from: the default, where no address is given; nowhere, where an empty one is given
abbrev pub style_of : Option (Bor (List ℕ)) → Style
style_of None = style.Default
style_of (Some address) = if length address.now == 0 then style.Nothing else style.Link address

-- the attribute that names the language of a page, where one is given
abbrev pub language_attribute : Option (Bor (List ℕ)) → List ℕ
language_attribute None = []
language_attribute (Some language) = codes " lang=\"" ++ html_escaped language.now ++ codes "\""

-- what stands between the language of a page and its title
abbrev pub after_language : List ℕ
after_language =
    codes ">\n<head>\n<meta charset=\"utf-8\">\n"
    ++ codes "<meta name=\"viewport\" content=\"width=device-width, initial-scale=1\">\n"

-- what stands before the title of a page
abbrev pub before_title : Option (Bor (List ℕ)) → List ℕ
before_title language = codes "<!DOCTYPE html>\n<html" ++ language_attribute language ++ after_language

-- the title of a page
abbrev pub title_element : List ℕ → List ℕ
title_element title = codes "<title>" ++ html_escaped title ++ codes "</title>\n"

-- the link to a style sheet
abbrev pub style_link : List ℕ → List ℕ
style_link address = codes "<link rel=\"stylesheet\" href=\"" ++ html_escaped address ++ codes "\">\n"

-- the style of a page: itself, a link to it, or nothing
abbrev pub style_part : Style → List ℕ
style_part style.Default = codes "<style>\n" ++ default_style ++ codes "</style>\n"
style_part (style.Link address) = style_link address.now
style_part style.Nothing = []

-- the contents of a page, where there are any
abbrev pub contents_part : List ℕ → List ℕ
contents_part contents =
    if length contents == 0 then [] else codes "<nav>\n" ++ contents ++ codes "</nav>\n"

-- what a page says of itself, up to its body
abbrev pub page_head : Page → List ℕ
page_head page =
    before_title page.language ++ title_element page.title.now ++ style_part page.style ++ codes "</head>\n<body>\n"

-- the body of a page: its contents, and its HTML
abbrev pub page_body : Page → List ℕ
page_body page = contents_part page.contents.now ++ codes "<main>\n" ++ page.html.now ++ codes "</main>\n"

-- a page
abbrev pub page_html : Page → List ℕ
page_html page = page_head page ++ page_body page ++ codes "</body>\n</html>\n"
