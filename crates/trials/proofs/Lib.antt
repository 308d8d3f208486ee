mod DraftLaws
