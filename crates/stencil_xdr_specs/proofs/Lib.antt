mod ImageRows
